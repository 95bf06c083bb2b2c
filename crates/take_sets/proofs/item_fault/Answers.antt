-- `take_sets::item_fault` meets its contract, by its tests. Assumes nothing.
use borrow.Author.Tests.{lt-ltb, le-ltb}
use Rattle.table_take.specs.LengthSets.{item_fault}
use Rattle.take_sets.proofs.item_fault.Goals as goal

pub returns-then-number-gt256 : goal.returns-then-number-gt256
unfolding item_fault
returns-then-number-gt256 c = rw (lt-ltb 256 _ c.if-number-gt256.true)

pub returns-then-number-gt31 : goal.returns-then-number-gt31
unfolding item_fault
returns-then-number-gt31 c = rw (le-ltb 256 _ c.if-number-gt256.false, lt-ltb 31 _ c.if-number-gt31.true)

pub returns-then-first_of-number : goal.returns-then-first_of-number
unfolding item_fault
returns-then-first_of-number c = rw (le-ltb 256 _ c.if-number-gt256.false, le-ltb 31 _ c.if-number-gt31.false, ← c.first_of.ensures, lt-ltb _ _ c.if-first_of-number.true)

pub returns : goal.returns
unfolding item_fault
returns c = rw (le-ltb 256 _ c.if-number-gt256.false, le-ltb 31 _ c.if-number-gt31.false, ← c.first_of.ensures, le-ltb _ _ c.if-first_of-number.false)
