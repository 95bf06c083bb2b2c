-- `writer::body::write_objects` meets its contract. The invariant: what stands in front of the place, and what is left from the i-th object on, make the whole. Assumes nothing.
use mathlib.Core.Path.{◌≡◌, refl, sym, ap, ◌∙◌}
use mathlib.Core.List.{List, [], ◌++◌, append-nil}
use Prim.Native.Nat.{ℕ, ◌+◌, ◌*◌, ◌≤◌, ◌<◌}
use native.Mathlib.Omega.{arith}
use lib.ListN.{length, get_or, take, length-append}
use Rattle.card.specs.declared.Object.{Object}
use Rattle.card.specs.Content.{value_of, content_of, no_object}
use Rattle.card.specs.Layout.{object}
use Rattle.ground.proofs.Pieces.{part_length}
use Rattle.wire_records.specs.Records.{lent_record}
use Rattle.wire_records.proofs.Parts.{lent_count}
use Rattle.object_sizes.proofs.Items.{from, from_next, from_end}
use Rattle.object_sizes.proofs.Lent.{object_part}
use Rattle.writer.proofs.Grown.{one_on}
use Rattle.writer.proofs.body.write_objects.Goals as goal

pub loop-i-init : goal.loop-i-init
unfolding content_of
loop-i-init c = (refl, refl, refl)

pub slice_bounds-write_object-end : goal.slice_bounds-write_object-end
slice_bounds-write_object-end c = omega (arith, c.requires.0)

pub write_object-place-requires : goal.write_object-place-requires
write_object-place-requires c =
    let l = c.loop-i in
    let bs = c.args.bytes.now in
    let h : 14 + l.i * 29 + 29 ≤ length bs = omega (arith, c.requires.0) in
    let same = ap (λ (o : Object). o.length) (object_part bs c.requires.0 l.i (omega arith)) in
    (part_length _ _ 29 h, omega (arith, same, c.requires.1 l.i), omega (arith, l.invariant.0, l.invariant.1, c.requires.2))

pub loop-i-preserved : goal.loop-i-preserved
loop-i-preserved c =
    let l = c.loop-i in
    let bs = c.args.bytes.now in
    let os = (lent_record bs).objects in
    let h : l.i < 16 = omega arith in
    let step = from_next os l.i h (lent_count bs c.requires.0) _ c.tag_of-tag.ensures in
    let piece = object c.tag_of-tag.result (value_of (get_or os l.i no_object)) in
    let long = ap length step ∙ length-append piece (from (l.i + 1) os) in
    let place = rw (object_part bs c.requires.0 l.i h) at c.write_object-place.ensures.value in
    let front = rw (object_part bs c.requires.0 l.i h) at c.write_object-place.ensures.room_after in (
      omega (arith, l.invariant.0, c.write_object-place.auto.room),
      omega (arith, place, long, l.invariant.1),
      one_on (take l.place l.room) piece (from (l.i + 1) os) (from l.i os) _ front step l.invariant.2,
    )

pub shape_of-room : goal.shape_of-room
shape_of-room c = c.loop-i.invariant.0

pub returns : goal.returns
returns c =
    let l = c.loop-i in
    let os = (lent_record c.args.bytes.now).objects in
    let e : l.i ≡ 16 = omega arith in
    let none : from l.i os ≡ [] = rw e (from_end os) in
    record { value = omega (arith, ap length none, l.invariant.1); room_after = sym (append-nil (take l.place l.room)) ∙ ap (λ (x : List ℕ). take l.place l.room ++ x) (sym none) ∙ l.invariant.2 }
