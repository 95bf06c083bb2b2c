-- `writer::lay_out` meets its contract: head, template and filler make the layout. Assumes nothing.
use mathlib.Core.Path.{◌≡◌, refl, sym, ap, ◌∙◌}
use Prim.Native.Nat.{ℕ, ◌-◌, ◌≤◌}
use native.Mathlib.Omega.{arith}
use lib.ListN.{length, get_or, take, drop, length-drop}
use lib.Seq.{length-take-le}
use Rattle.card.specs.Content.{content_of}
use Rattle.card.specs.Layout.{filler, objects_of}
use Rattle.wire_records.specs.Records.{lent_record}
use Rattle.wire_records.proofs.Parts.{lent_last, lent_free}
use Rattle.writer.proofs.Templates.{template_most, laid_out}
use Rattle.writer.proofs.lay_out.Goals as goal

pub write_front-requires : goal.write_front-requires
write_front-requires c = (c.requires.0.sized, omega (arith, c.requires.1))

pub write_template-end-requires : goal.write_template-end-requires
write_template-end-requires c =
    (c.requires.0, omega (arith, c.write_front.auto.room, c.requires.1))

pub slice_bounds-write_filler-count : goal.slice_bounds-write_filler-count
slice_bounds-write_filler-count c =
    let ended : (c.write_template-end.result ≤ 245) × (length c.write_template-end.new.room ≡ 272) =
    let m = template_most (objects_of (content_of (lent_record c.args.bytes.now))) c.requires.0.storable.most in
    (omega (arith, c.write_template-end.ensures.value), omega (arith, c.write_template-end.auto.room, c.write_front.auto.room, c.requires.1)) in
    let k = ended in omega arith

pub slice_bounds-write_filler-start : goal.slice_bounds-write_filler-start
slice_bounds-write_filler-start c =
    let ended : (c.write_template-end.result ≤ 245) × (length c.write_template-end.new.room ≡ 272) =
    let m = template_most (objects_of (content_of (lent_record c.args.bytes.now))) c.requires.0.storable.most in
    (omega (arith, c.write_template-end.ensures.value), omega (arith, c.write_template-end.auto.room, c.write_front.auto.room, c.requires.1)) in
    let k = ended in omega arith

pub slice_bounds-write_filler-end : goal.slice_bounds-write_filler-end
slice_bounds-write_filler-end c =
    let ended : (c.write_template-end.result ≤ 245) × (length c.write_template-end.new.room ≡ 272) =
    let m = template_most (objects_of (content_of (lent_record c.args.bytes.now))) c.requires.0.storable.most in
    (omega (arith, c.write_template-end.ensures.value), omega (arith, c.write_template-end.auto.room, c.write_front.auto.room, c.requires.1)) in
    let k = ended in omega arith

pub bounds-bytes-13 : goal.bounds-bytes-13
bounds-bytes-13 c =
    omega (arith, c.requires.0.sized)

pub write_filler-requires : goal.write_filler-requires
write_filler-requires c =
    let ended : (c.write_template-end.result ≤ 245) × (length c.write_template-end.new.room ≡ 272) =
    let m = template_most (objects_of (content_of (lent_record c.args.bytes.now))) c.requires.0.storable.most in
    (omega (arith, c.write_template-end.ensures.value), omega (arith, c.write_template-end.auto.room, c.write_front.auto.room, c.requires.1)) in
    let part_long : length (take (256 - c.write_template-end.result) (drop c.write_template-end.result c.write_template-end.new.room)) ≡ 256 - c.write_template-end.result =
    let k = ended in
    length-take-le _ _ (omega (arith, k, length-drop c.write_template-end.result c.write_template-end.new.room)) in
    let k = ended in
    let n = part_long in
    (omega (arith, n, k), omega (arith, n, k))

pub returns : goal.returns
unfolding content_of
returns c =
    let ended : (c.write_template-end.result ≤ 245) × (length c.write_template-end.new.room ≡ 272) =
    let m = template_most (objects_of (content_of (lent_record c.args.bytes.now))) c.requires.0.storable.most in
    (omega (arith, c.write_template-end.ensures.value), omega (arith, c.write_template-end.auto.room, c.write_front.auto.room, c.requires.1)) in
    let part_long : length (take (256 - c.write_template-end.result) (drop c.write_template-end.result c.write_template-end.new.room)) ≡ 256 - c.write_template-end.result =
    let k = ended in
    length-take-le _ _ (omega (arith, k, length-drop c.write_template-end.result c.write_template-end.new.room)) in
    let bs = c.args.bytes.now in
    let r = lent_record bs in
    let l = c.write_template-end.new.room in
    let end = c.write_template-end.result in
    let k = ended in
    let part = part_long in
    let n : length (take (256 - end) (drop end l)) - 1 ≡ 255 - end = omega (arith, part, k) in
    let free : length r.free ≡ 12 = ap length (lent_free bs c.requires.0.sized) ∙ length-take-le 12 (drop 1 bs) (omega (arith, c.requires.0.sized, length-drop 1 bs)) in
    let fills = c.write_filler.ensures ∙ ap (λ (m : ℕ). filler m (get_or bs 13 0)) n ∙ ap (filler (255 - end)) (sym (lent_last bs c.requires.0.sized)) in
    laid_out c.args.room.now (content_of r) l (drop (256 - end) (drop end l)) end (omega (arith, c.requires.1)) free c.write_front.ensures c.write_template-end.ensures.room_after c.write_template-end.ensures.value
    fills (omega (arith, c.write_filler.auto.part, part, k)) refl
