-- `records::objects_of` meets its contract. The invariant: the objects passed are those of the pieces passed. Assumes nothing.
use mathlib.Core.Path.{◌≡◌, refl}
use Prim.Native.Nat.{◌+◌, ◌*◌, ◌≤◌, ◌<◌}
use native.Mathlib.Omega.{arith}
use lib.ListN.{length, length-set}
use Rattle.ground.specs.Pieces.{pieces}
use Rattle.wire_records.specs.Records.{object_from}
use Rattle.ground.proofs.Pieces.{part_length, stored_more, stored_all}
use Rattle.wire_records.proofs.objects_of.Goals as goal

pub loop-k-init : goal.loop-k-init
unfolding pieces
loop-k-init c = (refl, refl)

pub object_of-requires : goal.object_of-requires
object_of-requires c =
    let h : c.loop-k.k * 29 + 29 ≤ length c.args.part.now = omega arith in
    part_length _ _ 29 h

pub loop-k-preserved : goal.loop-k-preserved
loop-k-preserved c =
    let l = c.loop-k in
    let h : l.k < length l.objects = omega arith in
    (simp length-set (omega arith), stored_more object_from 29 _ l.objects l.k l.invariant.1 h c.object_of.ensures)

pub returns : goal.returns
returns c =
    let l = c.loop-k in
    let e : l.k ≡ 16 = omega arith in
    rw e at (stored_all object_from 29 _ l.objects l.k l.invariant.1 (omega arith))
