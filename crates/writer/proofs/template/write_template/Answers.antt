-- `writer::template::write_template` meets its contract: its runs of stores make the template, and the sum is taken over what they stored. Assumes nothing.
use mathlib.Core.Path.{◌≡◌, sym, ap, ◌∙◌}
use Prim.Native.Nat.{◌+◌, ◌≤◌}
use native.Mathlib.Omega.{arith}
use lib.ListN.{length, length-set}
use Rattle.card.specs.Content.{content_of}
use Rattle.card.specs.Layout.{objects_of}
use Rattle.wire_records.specs.Records.{lent_record}
use Rattle.wire_records.proofs.Parts.{lent_count}
use Rattle.object_sizes.specs.Sizes.{size_of}
use Rattle.object_sizes.proofs.Sums.{objects_long, content_count}
use Rattle.writer.proofs.Templates.{Begun, begun, templated, template_ends}
use Rattle.writer.proofs.template.write_template.Goals as goal

pub bounds-room-30 : goal.bounds-room-30
bounds-room-30 c = omega (arith, c.requires.1)

pub write_length-start-requires : goal.write_length-start-requires
write_length-start-requires c =
    let sized : c.size_of-size.result ≡ length (objects_of (content_of (lent_record c.args.bytes.now))) =
    let r = lent_record c.args.bytes.now in
    c.size_of-size.ensures.value ∙ ap size_of c.lengths_of.ensures ∙ sym (objects_long (content_of r) (content_count r (lent_count c.args.bytes.now c.requires.0.sized))) in
    (simp length-set (omega (arith, c.requires.1)), omega (arith, sized, c.requires.0.storable.most))

pub write_objects-end-requires : goal.write_objects-end-requires
write_objects-end-requires c =
    let sized : c.size_of-size.result ≡ length (objects_of (content_of (lent_record c.args.bytes.now))) =
    let r = lent_record c.args.bytes.now in
    c.size_of-size.ensures.value ∙ ap size_of c.lengths_of.ensures ∙ sym (objects_long (content_of r) (content_count r (lent_count c.args.bytes.now c.requires.0.sized))) in
    let known : Begun (objects_of (content_of (lent_record c.args.bytes.now))) (c.size_of-size.result + 3) c.write_length-start.result =
    begun (objects_of (content_of (lent_record c.args.bytes.now))) _ _ (sized) c.requires.0.storable.most c.write_length-start.ensures.value in
    let long : length c.write_length-start.new.buffer ≡ 272 =
    (simp length-set at c.write_length-start.auto.buffer) ∙ c.requires.1 in
    let k = known in
    (c.requires.0.sized, c.requires.0.storable.short, omega (arith, k.few, k.start_is, k.most, long))

pub bounds-room-end : goal.bounds-room-end
bounds-room-end c =
    let sized : c.size_of-size.result ≡ length (objects_of (content_of (lent_record c.args.bytes.now))) =
    let r = lent_record c.args.bytes.now in
    c.size_of-size.ensures.value ∙ ap size_of c.lengths_of.ensures ∙ sym (objects_long (content_of r) (content_count r (lent_count c.args.bytes.now c.requires.0.sized))) in
    let known : Begun (objects_of (content_of (lent_record c.args.bytes.now))) (c.size_of-size.result + 3) c.write_length-start.result =
    begun (objects_of (content_of (lent_record c.args.bytes.now))) _ _ (sized) c.requires.0.storable.most c.write_length-start.ensures.value in
    let long : length c.write_length-start.new.buffer ≡ 272 =
    (simp length-set at c.write_length-start.auto.buffer) ∙ c.requires.1 in
    let behind : (30 ≤ c.write_objects-end.result) × (c.write_objects-end.result ≤ 242) × (length c.write_objects-end.new.room ≡ 272) =
    let k = known in
    let e = c.write_objects-end.ensures.value in
    (omega (arith, e, k.start_is), omega (arith, e, k.few, k.start_is, k.most), omega (arith, long, c.write_objects-end.auto.room)) in
    let k = behind in omega arith

pub overflow_add-room : goal.overflow_add-room
overflow_add-room c =
    let sized : c.size_of-size.result ≡ length (objects_of (content_of (lent_record c.args.bytes.now))) =
    let r = lent_record c.args.bytes.now in
    c.size_of-size.ensures.value ∙ ap size_of c.lengths_of.ensures ∙ sym (objects_long (content_of r) (content_count r (lent_count c.args.bytes.now c.requires.0.sized))) in
    let known : Begun (objects_of (content_of (lent_record c.args.bytes.now))) (c.size_of-size.result + 3) c.write_length-start.result =
    begun (objects_of (content_of (lent_record c.args.bytes.now))) _ _ (sized) c.requires.0.storable.most c.write_length-start.ensures.value in
    let long : length c.write_length-start.new.buffer ≡ 272 =
    (simp length-set at c.write_length-start.auto.buffer) ∙ c.requires.1 in
    let behind : (30 ≤ c.write_objects-end.result) × (c.write_objects-end.result ≤ 242) × (length c.write_objects-end.new.room ≡ 272) =
    let k = known in
    let e = c.write_objects-end.ensures.value in
    (omega (arith, e, k.start_is), omega (arith, e, k.few, k.start_is, k.most), omega (arith, long, c.write_objects-end.auto.room)) in
    let k = behind in omega arith

pub bounds-room-end-2 : goal.bounds-room-end-2
bounds-room-end-2 c =
    let sized : c.size_of-size.result ≡ length (objects_of (content_of (lent_record c.args.bytes.now))) =
    let r = lent_record c.args.bytes.now in
    c.size_of-size.ensures.value ∙ ap size_of c.lengths_of.ensures ∙ sym (objects_long (content_of r) (content_count r (lent_count c.args.bytes.now c.requires.0.sized))) in
    let known : Begun (objects_of (content_of (lent_record c.args.bytes.now))) (c.size_of-size.result + 3) c.write_length-start.result =
    begun (objects_of (content_of (lent_record c.args.bytes.now))) _ _ (sized) c.requires.0.storable.most c.write_length-start.ensures.value in
    let long : length c.write_length-start.new.buffer ≡ 272 =
    (simp length-set at c.write_length-start.auto.buffer) ∙ c.requires.1 in
    let behind : (30 ≤ c.write_objects-end.result) × (c.write_objects-end.result ≤ 242) × (length c.write_objects-end.new.room ≡ 272) =
    let k = known in
    let e = c.write_objects-end.ensures.value in
    (omega (arith, e, k.start_is), omega (arith, e, k.few, k.start_is, k.most), omega (arith, long, c.write_objects-end.auto.room)) in
    let k = behind in simp length-set (omega arith)

pub overflow_add-place : goal.overflow_add-place
overflow_add-place c =
    let sized : c.size_of-size.result ≡ length (objects_of (content_of (lent_record c.args.bytes.now))) =
    let r = lent_record c.args.bytes.now in
    c.size_of-size.ensures.value ∙ ap size_of c.lengths_of.ensures ∙ sym (objects_long (content_of r) (content_count r (lent_count c.args.bytes.now c.requires.0.sized))) in
    let known : Begun (objects_of (content_of (lent_record c.args.bytes.now))) (c.size_of-size.result + 3) c.write_length-start.result =
    begun (objects_of (content_of (lent_record c.args.bytes.now))) _ _ (sized) c.requires.0.storable.most c.write_length-start.ensures.value in
    let long : length c.write_length-start.new.buffer ≡ 272 =
    (simp length-set at c.write_length-start.auto.buffer) ∙ c.requires.1 in
    let behind : (30 ≤ c.write_objects-end.result) × (c.write_objects-end.result ≤ 242) × (length c.write_objects-end.new.room ≡ 272) =
    let k = known in
    let e = c.write_objects-end.ensures.value in
    (omega (arith, e, k.start_is), omega (arith, e, k.few, k.start_is, k.most), omega (arith, long, c.write_objects-end.auto.room)) in
    let k = behind in omega arith

pub slice_bounds-checksum-count : goal.slice_bounds-checksum-count
slice_bounds-checksum-count c =
    let sized : c.size_of-size.result ≡ length (objects_of (content_of (lent_record c.args.bytes.now))) =
    let r = lent_record c.args.bytes.now in
    c.size_of-size.ensures.value ∙ ap size_of c.lengths_of.ensures ∙ sym (objects_long (content_of r) (content_count r (lent_count c.args.bytes.now c.requires.0.sized))) in
    let known : Begun (objects_of (content_of (lent_record c.args.bytes.now))) (c.size_of-size.result + 3) c.write_length-start.result =
    begun (objects_of (content_of (lent_record c.args.bytes.now))) _ _ (sized) c.requires.0.storable.most c.write_length-start.ensures.value in
    let long : length c.write_length-start.new.buffer ≡ 272 =
    (simp length-set at c.write_length-start.auto.buffer) ∙ c.requires.1 in
    let behind : (30 ≤ c.write_objects-end.result) × (c.write_objects-end.result ≤ 242) × (length c.write_objects-end.new.room ≡ 272) =
    let k = known in
    let e = c.write_objects-end.ensures.value in
    (omega (arith, e, k.start_is), omega (arith, e, k.few, k.start_is, k.most), omega (arith, long, c.write_objects-end.auto.room)) in
    let k = behind in omega arith

pub slice_bounds-checksum-start : goal.slice_bounds-checksum-start
slice_bounds-checksum-start c =
    let sized : c.size_of-size.result ≡ length (objects_of (content_of (lent_record c.args.bytes.now))) =
    let r = lent_record c.args.bytes.now in
    c.size_of-size.ensures.value ∙ ap size_of c.lengths_of.ensures ∙ sym (objects_long (content_of r) (content_count r (lent_count c.args.bytes.now c.requires.0.sized))) in
    let known : Begun (objects_of (content_of (lent_record c.args.bytes.now))) (c.size_of-size.result + 3) c.write_length-start.result =
    begun (objects_of (content_of (lent_record c.args.bytes.now))) _ _ (sized) c.requires.0.storable.most c.write_length-start.ensures.value in
    let long : length c.write_length-start.new.buffer ≡ 272 =
    (simp length-set at c.write_length-start.auto.buffer) ∙ c.requires.1 in
    let behind : (30 ≤ c.write_objects-end.result) × (c.write_objects-end.result ≤ 242) × (length c.write_objects-end.new.room ≡ 272) =
    let k = known in
    let e = c.write_objects-end.ensures.value in
    (omega (arith, e, k.start_is), omega (arith, e, k.few, k.start_is, k.most), omega (arith, long, c.write_objects-end.auto.room)) in
    let k = behind in omega arith

pub slice_bounds-checksum-end : goal.slice_bounds-checksum-end
slice_bounds-checksum-end c =
    let sized : c.size_of-size.result ≡ length (objects_of (content_of (lent_record c.args.bytes.now))) =
    let r = lent_record c.args.bytes.now in
    c.size_of-size.ensures.value ∙ ap size_of c.lengths_of.ensures ∙ sym (objects_long (content_of r) (content_count r (lent_count c.args.bytes.now c.requires.0.sized))) in
    let known : Begun (objects_of (content_of (lent_record c.args.bytes.now))) (c.size_of-size.result + 3) c.write_length-start.result =
    begun (objects_of (content_of (lent_record c.args.bytes.now))) _ _ (sized) c.requires.0.storable.most c.write_length-start.ensures.value in
    let long : length c.write_length-start.new.buffer ≡ 272 =
    (simp length-set at c.write_length-start.auto.buffer) ∙ c.requires.1 in
    let behind : (30 ≤ c.write_objects-end.result) × (c.write_objects-end.result ≤ 242) × (length c.write_objects-end.new.room ≡ 272) =
    let k = known in
    let e = c.write_objects-end.ensures.value in
    (omega (arith, e, k.start_is), omega (arith, e, k.few, k.start_is, k.most), omega (arith, long, c.write_objects-end.auto.room)) in
    let k = behind in simp length-set (omega arith)

pub bounds-room-place : goal.bounds-room-place
bounds-room-place c =
    let sized : c.size_of-size.result ≡ length (objects_of (content_of (lent_record c.args.bytes.now))) =
    let r = lent_record c.args.bytes.now in
    c.size_of-size.ensures.value ∙ ap size_of c.lengths_of.ensures ∙ sym (objects_long (content_of r) (content_count r (lent_count c.args.bytes.now c.requires.0.sized))) in
    let known : Begun (objects_of (content_of (lent_record c.args.bytes.now))) (c.size_of-size.result + 3) c.write_length-start.result =
    begun (objects_of (content_of (lent_record c.args.bytes.now))) _ _ (sized) c.requires.0.storable.most c.write_length-start.ensures.value in
    let long : length c.write_length-start.new.buffer ≡ 272 =
    (simp length-set at c.write_length-start.auto.buffer) ∙ c.requires.1 in
    let behind : (30 ≤ c.write_objects-end.result) × (c.write_objects-end.result ≤ 242) × (length c.write_objects-end.new.room ≡ 272) =
    let k = known in
    let e = c.write_objects-end.ensures.value in
    (omega (arith, e, k.start_is), omega (arith, e, k.few, k.start_is, k.most), omega (arith, long, c.write_objects-end.auto.room)) in
    let k = behind in simp length-set (omega arith)

pub overflow_add-result : goal.overflow_add-result
overflow_add-result c =
    let sized : c.size_of-size.result ≡ length (objects_of (content_of (lent_record c.args.bytes.now))) =
    let r = lent_record c.args.bytes.now in
    c.size_of-size.ensures.value ∙ ap size_of c.lengths_of.ensures ∙ sym (objects_long (content_of r) (content_count r (lent_count c.args.bytes.now c.requires.0.sized))) in
    let known : Begun (objects_of (content_of (lent_record c.args.bytes.now))) (c.size_of-size.result + 3) c.write_length-start.result =
    begun (objects_of (content_of (lent_record c.args.bytes.now))) _ _ (sized) c.requires.0.storable.most c.write_length-start.ensures.value in
    let long : length c.write_length-start.new.buffer ≡ 272 =
    (simp length-set at c.write_length-start.auto.buffer) ∙ c.requires.1 in
    let behind : (30 ≤ c.write_objects-end.result) × (c.write_objects-end.result ≤ 242) × (length c.write_objects-end.new.room ≡ 272) =
    let k = known in
    let e = c.write_objects-end.ensures.value in
    (omega (arith, e, k.start_is), omega (arith, e, k.few, k.start_is, k.most), omega (arith, long, c.write_objects-end.auto.room)) in
    let k = behind in omega arith

pub shape_of-room : goal.shape_of-room
shape_of-room c =
    let sized : c.size_of-size.result ≡ length (objects_of (content_of (lent_record c.args.bytes.now))) =
    let r = lent_record c.args.bytes.now in
    c.size_of-size.ensures.value ∙ ap size_of c.lengths_of.ensures ∙ sym (objects_long (content_of r) (content_count r (lent_count c.args.bytes.now c.requires.0.sized))) in
    let known : Begun (objects_of (content_of (lent_record c.args.bytes.now))) (c.size_of-size.result + 3) c.write_length-start.result =
    begun (objects_of (content_of (lent_record c.args.bytes.now))) _ _ (sized) c.requires.0.storable.most c.write_length-start.ensures.value in
    let long : length c.write_length-start.new.buffer ≡ 272 =
    (simp length-set at c.write_length-start.auto.buffer) ∙ c.requires.1 in
    let behind : (30 ≤ c.write_objects-end.result) × (c.write_objects-end.result ≤ 242) × (length c.write_objects-end.new.room ≡ 272) =
    let k = known in
    let e = c.write_objects-end.ensures.value in
    (omega (arith, e, k.start_is), omega (arith, e, k.few, k.start_is, k.most), omega (arith, long, c.write_objects-end.auto.room)) in
    let k = behind in
    simp length-set (omega (arith, k, c.requires.1))

pub returns : goal.returns
returns c =
    let sized : c.size_of-size.result ≡ length (objects_of (content_of (lent_record c.args.bytes.now))) =
    let r = lent_record c.args.bytes.now in
    c.size_of-size.ensures.value ∙ ap size_of c.lengths_of.ensures ∙ sym (objects_long (content_of r) (content_count r (lent_count c.args.bytes.now c.requires.0.sized))) in
    let known : Begun (objects_of (content_of (lent_record c.args.bytes.now))) (c.size_of-size.result + 3) c.write_length-start.result =
    begun (objects_of (content_of (lent_record c.args.bytes.now))) _ _ (sized) c.requires.0.storable.most c.write_length-start.ensures.value in
    let long : length c.write_length-start.new.buffer ≡ 272 =
    (simp length-set at c.write_length-start.auto.buffer) ∙ c.requires.1 in
    let behind : (30 ≤ c.write_objects-end.result) × (c.write_objects-end.result ≤ 242) × (length c.write_objects-end.new.room ≡ 272) =
    let k = known in
    let e = c.write_objects-end.ensures.value in
    (omega (arith, e, k.start_is), omega (arith, e, k.few, k.start_is, k.most), omega (arith, long, c.write_objects-end.auto.room)) in
    let k = known in
    let e = c.write_objects-end.ensures.value in
    let m = behind in
    let all = objects_of (content_of (lent_record c.args.bytes.now)) in record {
      value = template_ends all k e;
      room_after = templated all k e c.args.room.now c.write_objects-end.new.room c.checksum-sum.result c.write_length-start.ensures.buffer_after c.write_objects-end.ensures.room_after
          (omega (arith, k.start_is, k.most, c.requires.1)) (omega arith) c.checksum-sum.ensures;
    }
