-- `take_sets::with_range` meets its contract. The invariant: the lengths that are left, with the set so far, make the set. Assumes nothing.
use mathlib.Core.Path.{◌≡◌}
use Prim.Native.Nat.{◌+◌, ◌-◌}
use Rattle.table_take.specs.LengthSets.{with_range}
use Rattle.take_sets.proofs.with_range.Given as goal

abbrev pub invariant-loop-n : goal.invariant-loop-n
invariant-loop-n l = with_range l.all l.n (l.last + 1 - l.n) ≡ with_range l.set l.first (l.last + 1 - l.first)
