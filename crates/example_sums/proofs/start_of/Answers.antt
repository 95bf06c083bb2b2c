-- `example_sums::start_of` meets its contract, by its test. Assumes nothing.
use native.Mathlib.Omega.{arith}
use Rattle.example.specs.Cards.{start_of}
use Rattle.example_sums.proofs.start_of.Goals as goal

pub returns-then-is_grouped : goal.returns-then-is_grouped
unfolding start_of
returns-then-is_grouped c = record { value = rw (← c.is_grouped.ensures, c.if-is_grouped.true); upper_bound = omega arith }

pub returns-else-is_grouped : goal.returns-else-is_grouped
unfolding start_of
returns-else-is_grouped c = record { value = rw (← c.is_grouped.ensures, c.if-is_grouped.false); upper_bound = omega arith }
