-- `line_names::put_line`: the name that is asked for stands among those left, so many lines on. Assumes nothing.
use Prim.Native.Nat.{◌+◌, ◌-◌, ◌≤◌}
use mathlib.Core.Path.{◌≡◌}
use mathlib.Core.List.{[]}
use lib.ListN.{length, get_or, drop}
use Rattle.card_lines.specs.Lines.{lines}
use Rattle.line_names.proofs.put_line.Given as goal

abbrev pub invariant-loop-at : goal.invariant-loop-at
invariant-loop-at l = (length l.room ≡ length l.initial.room) × (l.room ≡ l.initial.room) × (l.i ≤ l.at) × (l.at ≤ length l.list + 1) × (l.i ≤ l.number) × (get_or (lines (drop l.at l.list)) (l.number - l.i) [] ≡ get_or (lines l.list) l.number [])

abbrev pub decreases-loop-at : goal.decreases-loop-at
decreases-loop-at l = length l.list - l.at
