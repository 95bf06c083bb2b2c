-- `writer::body::write_object` meets its contract: nothing, or tag, length and the front of 28 bytes. Assumes nothing.
use mathlib.Core.Path.{◌≡◌, sym, ap, ◌∙◌}
use mathlib.Core.List.{List, ◌∷◌, ◌++◌, append-nil}
use Prim.Native.Nat.{ℕ, ◌+◌, ◌-◌, ◌≤◌}
use native.Mathlib.Omega.{arith}
use lib.ListN.{length, get_or, set, take, drop, length-set, length-drop, replicate, length-replicate}
use Rattle.ground.proofs.Puts.{put_stored, put_whole}
use Rattle.ground.proofs.Pieces.{to_end}
use Rattle.card.specs.Content.{value_of}
use Rattle.wire_records.specs.Records.{object_from}
use Rattle.object_sizes.proofs.Items.{object_none, drawn}
use Rattle.object_sizes.proofs.Lent.{held_from, long_from}
use Rattle.writer.proofs.Grown.{object_grown}
use Rattle.writer.proofs.body.write_object.Goals as goal

pub bounds-item-0 : goal.bounds-item-0
bounds-item-0 c = omega (arith, c.requires.0)

pub returns-then-n-eq0 : goal.returns-then-n-eq0
returns-then-n-eq0 c =
    let a = c.args in
    let n = long_from a.item.now c.requires.0 (omega (arith, c.requires.1)) in
    let e = object_none a.tag (value_of (object_from a.item.now)) (omega (arith, c.if-n-eq0.true)) in
    record { value = rw e (omega arith); room_after = rw e (sym (append-nil (take a.at a.room.now))) }

pub slice_bounds-put-count : goal.slice_bounds-put-count
slice_bounds-put-count c = omega (arith, c.requires.0)

pub slice_bounds-put-start : goal.slice_bounds-put-start
slice_bounds-put-start c = omega (arith, c.requires.0)

pub slice_bounds-put-end-2 : goal.slice_bounds-put-end-2
slice_bounds-put-end-2 c = omega (arith, c.requires.0)

pub bounds-room-at : goal.bounds-room-at
bounds-room-at c = omega (arith, c.requires.2)

pub bounds-room-at-2 : goal.bounds-room-at-2
bounds-room-at-2 c = simp length-set (omega (arith, c.requires.2))

pub shape_of-room : goal.shape_of-room
shape_of-room c = simp length-set at c.put-2.auto.room

pub returns : goal.returns
returns c =
    let copied : c.put.new.room ≡ drop 1 c.args.item.now =
    let bs = c.args.item.now in
    let same = to_end bs 1 in
    let long : length (take (length bs - 1) (drop 1 bs)) ≡ length (replicate {A = ℕ} 28 0) = ap length same ∙ omega (arith, c.requires.0, length-drop 1 bs, length-replicate {A = ℕ} 28 0) in
    put_whole _ _ long c.put.ensures.room_after ∙ same in
    let a = c.args in
    let bs = a.item.now in
    let n = get_or bs 0 0 in
    let v = c.put.new.room in
    let is = copied in
    let hv : length v ≡ 28 = ap length is ∙ held_from bs c.requires.0 in
    let fits : a.at + 2 + length v ≤ length (set (set a.room.now a.at a.tag) (a.at + 1) n) = simp length-set (omega (arith, hv, c.requires.2)) in
    let d = drawn a.tag (object_from bs) (held_from bs c.requires.0) c.requires.1 c.if-n-eq0.false in
    let grown = object_grown a.room.now v a.at a.tag n (put_stored _ _ _ fits c.put-2.ensures.room_after) hv c.requires.1 c.requires.2 in
    let same : a.tag ∷ n ∷ take n v ≡ a.tag ∷ n ∷ take n (drop 1 bs) = ap (λ (x : List ℕ). a.tag ∷ n ∷ take n x) is in
    record { value = omega (arith, d.size); room_after = grown ∙ ap (λ (x : List ℕ). take a.at a.room.now ++ x) (same ∙ sym d.bytes) }
