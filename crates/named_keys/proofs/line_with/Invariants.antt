-- `named_keys::line_with`: the names that are left, with those passed, make the whole. Assumes nothing.
use Prim.Native.Nat.{◌+◌, ◌-◌, ◌≤◌}
use mathlib.Core.Path.{◌≡◌}
use lib.ListN.{length, drop}
use Rattle.card_lines.specs.Lines.{lines}
use Rattle.card_lines.specs.Keys.{place_of}
use Rattle.named_keys.proofs.line_with.Given as goal

abbrev pub invariant-loop-at : goal.invariant-loop-at
invariant-loop-at l = (l.i ≤ l.at) × (l.at ≤ length l.list + 1) × (l.i + place_of (lines (drop l.at l.list)) l.name ≡ place_of (lines l.list) l.name)

abbrev pub decreases-loop-at : goal.decreases-loop-at
decreases-loop-at l = length l.list - l.at
