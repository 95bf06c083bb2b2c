-- Test by test, and then the three puts: the tag, the length field and the value.
use Rattle.std.proofs.Common.{◌≡◌, ℕ, ◌+◌, ◌≤◌, List, length, take, set, arith, length-set}
use Rattle.std.proofs.lemmas.List.{length-take-le}
use Rattle.ground.specs.Rooms.{room_with, behind_put, Put}
use Rattle.ground.proofs.Puts.{put_there}
use Rattle.lengths.specs.Lengths.{length_field}
use Rattle.lengths.proofs.Laws.{field_size}
use Rattle.tree_back.proofs.Putting.{no_tag, no_values, no_room, not_put, put}
use Rattle.tree_write.proofs.put_object.Goals as goal

-- the field behind the tag, and the value behind the field
record Placed (tagged field value held after : List ℕ) (p start end : ℕ) : Type 0 where
  behind_tag : Put tagged (p + 1) field held start
  behind_field : Put held start value after end

placed : (out : List ℕ) (p tag n m : ℕ) (values held after : List ℕ) (start end : ℕ) → m ≤ length values → p + 4 + m ≤ length out
    → start ≡ behind_put (set out p tag) (p + 1) (length_field n) → held ≡ room_with (set out p tag) (p + 1) (length_field n) → length held ≡ length (set out p tag)
    → end ≡ behind_put held start (take m values) → after ≡ room_with held start (take m values)
    → Placed (set out p tag) (length_field n) (take m values) held after p start end
placed out p tag n m values held after start end few fits s h same e a =
    let field = put_there {room = set out p tag} {at = p + 1} {bytes = length_field n} s h (omega (arith, (field_size n).1, length-set out p tag)) in
    record {
      behind_tag = field;
      behind_field = put_there {room = held} {at = start} {bytes = take m values} e a
          (omega (arith, field.place, (field_size n).1, length-take-le m values few, same, length-set out p tag));
    }

pub returns-then-tag-gt255-clause-value : goal.returns-then-tag-gt255-clause-value
returns-then-tag-gt255-clause-value c =
    let a = c.args in
    let cap = length a.out.now in
    (not_put cap a.p a.tag a.n a.values.now a.out.now a.out.now (no_tag cap a.p a.tag a.n a.values.now c.if-tag-gt255.true)).0

pub returns-then-tag-gt255-clause-out_after : goal.returns-then-tag-gt255-clause-out_after
returns-then-tag-gt255-clause-out_after c =
    let a = c.args in
    let cap = length a.out.now in
    (not_put cap a.p a.tag a.n a.values.now a.out.now a.out.now (no_tag cap a.p a.tag a.n a.values.now c.if-tag-gt255.true)).1

pub returns-then-values-size-clause-value : goal.returns-then-values-size-clause-value
returns-then-values-size-clause-value c =
    let a = c.args in
    let cap = length a.out.now in
    (not_put cap a.p a.tag a.n a.values.now a.out.now a.out.now
    (no_values cap a.p a.tag a.n a.values.now c.if-tag-gt255.false (omega (arith, c.value_size-size.ensures)))).0

pub returns-then-values-size-clause-out_after : goal.returns-then-values-size-clause-out_after
returns-then-values-size-clause-out_after c =
    let a = c.args in
    let cap = length a.out.now in
    (not_put cap a.p a.tag a.n a.values.now a.out.now a.out.now
    (no_values cap a.p a.tag a.n a.values.now c.if-tag-gt255.false (omega (arith, c.value_size-size.ensures)))).1

pub returns-then-out-p-clause-value : goal.returns-then-out-p-clause-value
returns-then-out-p-clause-value c =
    let a = c.args in
    let cap = length a.out.now in
    (not_put cap a.p a.tag a.n a.values.now a.out.now a.out.now
    (no_room cap a.p a.tag a.n a.values.now c.if-tag-gt255.false (omega (arith, c.value_size-size.ensures)) (omega (arith, c.value_size-size.ensures)))).0

pub returns-then-out-p-clause-out_after : goal.returns-then-out-p-clause-out_after
returns-then-out-p-clause-out_after c =
    let a = c.args in
    let cap = length a.out.now in
    (not_put cap a.p a.tag a.n a.values.now a.out.now a.out.now
    (no_room cap a.p a.tag a.n a.values.now c.if-tag-gt255.false (omega (arith, c.value_size-size.ensures)) (omega (arith, c.value_size-size.ensures)))).1

pub overflow_sub-result : goal.overflow_sub-result
overflow_sub-result c =
    let a = c.args in
    let f = c.put_length-start in
    let v = c.put-end in
    let w = placed a.out.now a.p a.tag a.n c.value_size-size.result a.values.now f.new.room v.new.room f.result v.result (omega arith) (omega arith)
    f.ensures.value f.ensures.room_after f.auto.room v.ensures.value v.ensures.room_after in
    omega (arith, w.behind_tag.place, w.behind_field.place)

pub returns-clause-value : goal.returns-clause-value
returns-clause-value c =
    let a = c.args in
    let f = c.put_length-start in
    let v = c.put-end in
    let w = placed a.out.now a.p a.tag a.n c.value_size-size.result a.values.now f.new.room v.new.room f.result v.result (omega arith) (omega arith)
    f.ensures.value f.ensures.room_after f.auto.room v.ensures.value v.ensures.room_after in
    (put (length a.out.now) a.p a.tag a.n a.values.now a.out.now f.new.room v.new.room c.value_size-size.result f.result v.result
    c.value_size-size.ensures c.if-tag-gt255.false c.if-values-size.false c.if-out-p.false w.behind_tag w.behind_field).0

pub returns-clause-out_after : goal.returns-clause-out_after
returns-clause-out_after c =
    let a = c.args in
    let f = c.put_length-start in
    let v = c.put-end in
    let w = placed a.out.now a.p a.tag a.n c.value_size-size.result a.values.now f.new.room v.new.room f.result v.result (omega arith) (omega arith)
    f.ensures.value f.ensures.room_after f.auto.room v.ensures.value v.ensures.room_after in
    (put (length a.out.now) a.p a.tag a.n a.values.now a.out.now f.new.room v.new.room c.value_size-size.result f.result v.result
    c.value_size-size.ensures c.if-tag-gt255.false c.if-values-size.false c.if-out-p.false w.behind_tag w.behind_field).1
