-- `take_sets::first_of` meets its contract, by its test. Assumes nothing.
use borrow.Author.Tests.{eq-eqb, ne_eqb}
use Rattle.take_sets.proofs.first_of.Goals as goal

pub returns-then-from-eq-NO_RANGE : goal.returns-then-from-eq-NO_RANGE
returns-then-from-eq-NO_RANGE c = rw (eq-eqb _ 32 c.if-from-eq-NO_RANGE.true)

pub returns-else-from-eq-NO_RANGE : goal.returns-else-from-eq-NO_RANGE
returns-else-from-eq-NO_RANGE c = rw (ne_eqb _ 32 c.if-from-eq-NO_RANGE.false)
