-- `differences::spots::put_objects` meets its contract. The invariant: what is left to put, from the i-th object on, makes the whole. Assumes nothing.
use mathlib.Core.Path.{◌≡◌}
use Prim.Native.Nat.{◌≤◌}
use lib.ListN.{length}
use Rattle.ground.proofs.Puts.{Left}
use Rattle.reader_steps.specs.Steps.{values_at}
use Rattle.differences.specs.Steps.{object_words}
use Rattle.differences.proofs.Words.{objects_from}
use Rattle.differences.proofs.spots.put_objects.Given as goal

abbrev pub invariant-loop-i : goal.invariant-loop-i
invariant-loop-i l =
    (length l.room ≡ length l.initial.room) × (l.count ≤ l.i)
    × Left l.initial.room 0 (object_words (values_at l.first l.starts l.lengths) (values_at l.second l.others l.sizes)) l.room l.count (objects_from l.i (values_at l.first l.starts l.lengths) (values_at l.second l.others l.sizes))
