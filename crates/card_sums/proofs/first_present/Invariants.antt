-- `card_sums::first_present` meets its contract. The invariant: what is passed with what is left makes the whole. Assumes nothing.
use mathlib.Core.Path.{◌≡◌}
use lib.ListN.{length}
use Rattle.card.specs.Rules.{first_present}
use Rattle.card_sums.proofs.first_present.Given as goal

abbrev pub invariant-loop-i : goal.invariant-loop-i
invariant-loop-i l = (length l.lengths ≡ 16) × (first_present l.i l.lengths ≡ first_present l.k l.lengths)
