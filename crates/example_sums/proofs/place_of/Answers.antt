-- `example_sums::place_of` meets its contract, by its test. Assumes nothing.
use Rattle.example.specs.Cards.{place_of}
use Rattle.example_sums.proofs.place_of.Goals as goal

pub returns-then-is_grouped : goal.returns-then-is_grouped
unfolding place_of
returns-then-is_grouped c = rw (← c.is_grouped.ensures, c.if-is_grouped.true)

pub returns-else-is_grouped : goal.returns-else-is_grouped
unfolding place_of
returns-else-is_grouped c = rw (← c.is_grouped.ensures, c.if-is_grouped.false)
