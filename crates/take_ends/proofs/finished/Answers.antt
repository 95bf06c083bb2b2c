-- `take_ends::finished` meets its contract, by its tests. Assumes nothing.
use borrow.Author.Tests.{eq-eqb, ne_eqb, lt-ltb, le-ltb}
use Rattle.table_take.specs.Taking.{finished}
use Rattle.take_ends.proofs.finished.Goals as goal

pub returns-then-state-ne0 : goal.returns-then-state-ne0
unfolding finished
returns-then-state-ne0 c = rw (ne_eqb _ 0 c.if-state-ne0.true)

pub returns-then-state-lt18 : goal.returns-then-state-lt18
unfolding finished
returns-then-state-lt18 c = rw (eq-eqb _ 0 c.if-state-ne0.false, lt-ltb _ 18 c.if-state-lt18.true)

pub returns : goal.returns
unfolding finished
returns c = rw (eq-eqb _ 0 c.if-state-ne0.false, le-ltb _ 18 c.if-state-lt18.false)
