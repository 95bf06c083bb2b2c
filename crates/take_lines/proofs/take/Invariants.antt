-- `take_lines::take` meets its contract. The invariant: the lines that are left, with what was said so far, make the whole. Assumes nothing.
use mathlib.Core.Path.{◌≡◌}
use Prim.Native.Nat.{◌+◌, ◌-◌, ◌≤◌}
use lib.ListN.{length, drop}
use Rattle.table_take.specs.Splitting.{lines}
use Rattle.table_take.specs.Taking.{taking, no_rows, taken_from}
use Rattle.take_lines.proofs.take.Given as goal

abbrev pub invariant-loop-at : goal.invariant-loop-at
invariant-loop-at l = (l.n ≤ l.at + 1) × (l.at ≤ length l.text + 1) × (taken_from l.state l.n (lines (drop l.at l.text)) ≡ taken_from (taking 0 0 0 0 no_rows) 1 (lines l.text))

abbrev pub decreases-loop-at : goal.decreases-loop-at
decreases-loop-at l = length l.text - l.at
