-- `text_checks::check`: the first fault of the lines that are left is the first of all. Assumes nothing.
use Prim.Native.Nat.{◌+◌, ◌-◌, ◌≤◌}
use mathlib.Core.Path.{◌≡◌}
use lib.ListN.{length, drop}
use Rattle.card_lines.specs.Lines.{lines}
use Rattle.card_text.specs.Faults.{fault_from}
use Rattle.text_checks.proofs.check.Given as goal

abbrev pub invariant-loop-at : goal.invariant-loop-at
invariant-loop-at l = (l.line ≤ l.at + 1) × (l.at ≤ length l.text + 1) × (fault_from l.text l.line (lines (drop l.at l.text)) ≡ fault_from l.text 1 (lines l.text))

abbrev pub decreases-loop-at : goal.decreases-loop-at
decreases-loop-at l = length l.text - l.at
