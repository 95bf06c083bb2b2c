-- `records::put_objects` meets its contract. The invariant: what is left to put, from object k on, makes the whole. Assumes nothing.
use mathlib.Core.Path.{◌≡◌, refl}
use Prim.Native.Nat.{◌<◌}
use native.Mathlib.Omega.{arith}
use lib.ListN.{length}
use Rattle.ground.proofs.Puts.{left_start, left_next, left_end}
use Rattle.ground.proofs.Pieces.{joined_next, joined_end}
use Rattle.card.specs.Content.{no_object}
use Rattle.wire_records.proofs.RecordsBack.{held_more}
use Rattle.wire_records.specs.Records.{object_bytes}
use Rattle.wire_records.proofs.put_objects.Goals as goal

pub loop-item-init : goal.loop-item-init
loop-item-init c = (refl, omega arith, left_start _ _ _, λ j h. absurd (omega arith))

pub loop-item-preserved : goal.loop-item-preserved
loop-item-preserved c =
    let sixteen : length c.args.content.objects ≡ 16 = omega arith in
    let l = c.loop-item in
    let os = c.args.content.objects in
    let h : l.item-index < length os = omega (arith, sixteen) in (
      omega arith,
      omega (arith, c.put_object-place.ensures.value),
      left_next l.invariant.2 _ _ (joined_next object_bytes os l.item-index no_object h) c.put_object-place.ensures.put,
      held_more os l.item-index (omega (arith, c.put_object-place.ensures.put.place, c.put_object-place.ensures.value)) l.invariant.3,
    )

pub returns : goal.returns
returns c =
    let sixteen : length c.args.content.objects ≡ 16 = omega arith in
    let l = c.loop-item in
    let os = c.args.content.objects in
    let e : l.item-index ≡ 16 = omega arith in
    record { put = left_end l.invariant.2 (joined_end object_bytes os l.item-index (omega (arith, sixteen))); value = omega arith; by_index = λ j h. l.invariant.3 j (omega arith) }
