-- `planning::steps::count_changes` meets its contract. The invariant: the count, and the steps from the i-th byte on, make the whole. Assumes nothing.
use mathlib.Core.Path.{◌≡◌}
use Prim.Native.Nat.{◌+◌, ◌≤◌}
use lib.ListN.{length, drop}
use Rattle.planning.specs.Planning.{changes}
use Rattle.planning.proofs.steps.count_changes.Given as goal

abbrev pub invariant-loop-i : goal.invariant-loop-i
invariant-loop-i l = (l.count ≤ l.i) × (l.count + length (changes (0 + l.i) (drop l.i l.old) (drop l.i l.new)) ≡ length (changes 0 l.old l.new))
