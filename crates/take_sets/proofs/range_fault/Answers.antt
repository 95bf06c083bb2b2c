-- `take_sets::range_fault` meets its contract, by its tests. Assumes nothing.
use borrow.Author.Tests.{eq-eqb, ne_eqb, lt-ltb, le-ltb}
use Rattle.table_take.specs.LengthSets.{range_fault}
use Rattle.take_sets.proofs.range_fault.Goals as goal

pub returns-then-from-ne-NO_RANGE : goal.returns-then-from-ne-NO_RANGE
unfolding range_fault
returns-then-from-ne-NO_RANGE c = rw (ne_eqb _ 32 c.if-from-ne-NO_RANGE.true)

pub returns-then-number-gt256 : goal.returns-then-number-gt256
unfolding range_fault
returns-then-number-gt256 c = rw (eq-eqb _ 32 c.if-from-ne-NO_RANGE.false, lt-ltb 256 _ c.if-number-gt256.true)

pub returns-then-number-gt31 : goal.returns-then-number-gt31
unfolding range_fault
returns-then-number-gt31 c = rw (eq-eqb _ 32 c.if-from-ne-NO_RANGE.false, le-ltb 256 _ c.if-number-gt256.false, lt-ltb 31 _ c.if-number-gt31.true)

pub returns : goal.returns
unfolding range_fault
returns c = rw (eq-eqb _ 32 c.if-from-ne-NO_RANGE.false, le-ltb 256 _ c.if-number-gt256.false, le-ltb 31 _ c.if-number-gt31.false)
