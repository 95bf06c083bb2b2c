-- `listing::object_lines::put_objects` meets its contract. The invariant: what is left to write from the i-th object on makes the whole. Assumes nothing.
use mathlib.Core.Path.{◌≡◌}
use Prim.Native.Nat.{◌+◌, ◌<◌}
use native.Mathlib.Omega.{arith}
use lib.ListN.{length}
use Rattle.ground.proofs.Puts.{left_start, left_next, left_end}
use Rattle.listing.proofs.Lines.{from, from_next, from_end}
use Rattle.listing.proofs.object_lines.put_objects.Goals as goal

pub loop-i-init : goal.loop-i-init
loop-i-init c = (omega arith, left_start _ _ _)

pub loop-i-preserved : goal.loop-i-preserved
loop-i-preserved c =
    let sixteen : length c.args.content.objects ≡ 16 = omega arith in
    let l = c.loop-i in
    let h : l.i < 16 = omega arith in
    (omega arith, left_next l.invariant.1 _ (from (l.i + 1) c.args.content.objects) (from_next c.args.content.objects l.i h (sixteen) _ c.tag_of.ensures) c.put_object-place.ensures.put)

pub returns : goal.returns
returns c =
    let l = c.loop-i in
    let e : l.i ≡ 16 = omega arith in
    record { put = left_end l.invariant.1 (rw e (from_end c.args.content.objects)); upper_bound = omega arith }
