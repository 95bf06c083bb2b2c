-- `day_cards::entry_of` meets its contract. The invariant: the bytes passed are those of the padded number. Assumes nothing.
use mathlib.Core.Path.{◌≡◌}
use lib.ListN.{length, take}
use Rattle.card.specs.Content.{value_of}
use Rattle.day.specs.Cards.{padded}
use Rattle.day_cards.proofs.entry_of.Given as goal

abbrev pub invariant-loop-i : goal.invariant-loop-i
invariant-loop-i l = (length l.bytes ≡ 14) × (take l.i l.bytes ≡ take l.i (padded (value_of l.number)))
