-- `take_sets::with_sign` meets its contract, by its tests. Assumes nothing.
use borrow.Author.Tests.{eq-eqb, ne_eqb}
use Rattle.table_take.specs.LengthSets.{with_sign}
use Rattle.take_sets.proofs.with_sign.Goals as goal

pub returns-then-item-ne0 : goal.returns-then-item-ne0
unfolding with_sign
returns-then-item-ne0 c = rw (ne_eqb _ 0 c.if-item-ne0.true)

pub returns-then-sign-eq44 : goal.returns-then-sign-eq44
unfolding with_sign
returns-then-sign-eq44 c = rw (eq-eqb _ 0 c.if-item-ne0.false, eq-eqb _ 0x2C c.if-sign-eq44.true) c.closed.ensures

pub returns-then-sign-eq45 : goal.returns-then-sign-eq45
unfolding with_sign
returns-then-sign-eq45 c = rw (eq-eqb _ 0 c.if-item-ne0.false, ne_eqb _ 0x2C c.if-sign-eq44.false, eq-eqb _ 0x2D c.if-sign-eq45.true) c.begun.ensures

pub returns : goal.returns
unfolding with_sign
returns c = rw (eq-eqb _ 0 c.if-item-ne0.false, ne_eqb _ 0x2C c.if-sign-eq44.false, ne_eqb _ 0x2D c.if-sign-eq45.false, c.with_byte.ensures)
