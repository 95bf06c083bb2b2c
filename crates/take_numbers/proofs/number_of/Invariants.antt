-- `take_numbers::number_of` meets its contract. The invariant: what is left of the word, with the number so far, makes the number. Assumes nothing.
use mathlib.Core.Path.{◌≡◌}
use lib.ListN.{drop}
use Rattle.table_take.specs.Splitting.{through}
use Rattle.table_take.specs.Numbers.{with_byte}
use Rattle.take_numbers.proofs.number_of.Given as goal

abbrev pub invariant-loop-b : goal.invariant-loop-b
invariant-loop-b l = through with_byte l.number (drop l.b-index l.word) ≡ through with_byte 258 l.word
