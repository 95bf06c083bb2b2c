-- `objects_list::list_rows` meets its contract. The invariant: the walk of all rows is the values so far and the walk that is left, and the table
-- holds the places of those values. Assumes nothing.
use mathlib.Core.Path.{◌≡◌}
use Prim.Native.Nat.{◌≤◌}
use lib.ListN.{length}
use Rattle.objects.proofs.Steps.{Sofar}
use Rattle.objects_list.proofs.list_rows.Given as goal

abbrev pub invariant-loop-k : goal.invariant-loop-k
invariant-loop-k l =
    (l.i ≤ length l.template) × (length l.starts ≡ 16) × (length l.lengths ≡ 16) × Sofar l.template l.fn.rows l.from l.k l.i l.starts l.lengths
