-- `take_sets::lengths_of` meets its contract. The invariant: what is left of the word, with what is listed so far, makes the list. Assumes nothing.
use mathlib.Core.Path.{◌≡◌}
use lib.ListN.{drop}
use Rattle.table_take.specs.Splitting.{through}
use Rattle.table_take.specs.LengthSets.{nothing_listed, with_sign}
use Rattle.take_sets.proofs.lengths_of.Given as goal

abbrev pub invariant-loop-sign : goal.invariant-loop-sign
invariant-loop-sign l = through with_sign l.item (drop l.sign-index l.word) ≡ through with_sign nothing_listed l.word
