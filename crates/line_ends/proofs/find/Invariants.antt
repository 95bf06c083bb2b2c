-- `line_ends::find`: what is passed with what is left makes the whole. Assumes nothing.
use Prim.Native.Nat.{◌+◌}
use mathlib.Core.Path.{◌≡◌}
use lib.ListN.{drop}
use Rattle.card_lines.specs.Lines.{before}
use Rattle.line_ends.proofs.find.Given as goal

abbrev pub invariant-loop-end : goal.invariant-loop-end
invariant-loop-end l = l.end + before l.byte (drop l.end l.text) ≡ l.at + before l.byte (drop l.at l.text)
