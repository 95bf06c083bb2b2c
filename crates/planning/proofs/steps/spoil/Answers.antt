-- `planning::steps::spoil` meets its contract, by its test. Assumes nothing.
use borrow.Author.Tests.{eq-eqb, ne_eqb}
use Rattle.planning.proofs.steps.spoil.Goals as goal

pub returns-then-tag-eq-TAG : goal.returns-then-tag-eq-TAG
returns-then-tag-eq-TAG c = rw (eq-eqb _ 0x60 c.if-tag-eq-TAG.true)

pub returns-else-tag-eq-TAG : goal.returns-else-tag-eq-TAG
returns-else-tag-eq-TAG c = rw (ne_eqb _ 0x60 c.if-tag-eq-TAG.false)
