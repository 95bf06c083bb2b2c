-- `take_sets::closed` meets its contract, by its tests; an item that ends well ends with a length. Assumes nothing.
use mathlib.Core.Path.{sym, ◌∙◌}
use borrow.Author.Tests.{eq-eqb, ne_eqb}
use Rattle.table_take.specs.LengthSets.{settled, closed}
use Rattle.table_take.proofs.Ranges.{item_length}
use Rattle.take_sets.proofs.closed.Goals as goal

pub returns-then-item-ne0 : goal.returns-then-item-ne0
unfolding closed
returns-then-item-ne0 c = rw (ne_eqb _ 0 c.if-item-ne0.true)

pub returns-then-fault-ne0 : goal.returns-then-fault-ne0
unfolding closed settled
returns-then-fault-ne0 c = rw (eq-eqb _ 0 c.if-item-ne0.false, ← c.item_fault-fault.ensures, ne_eqb _ 0 c.if-fault-ne0.true)

pub with_range-requires : goal.with_range-requires
with_range-requires c = item_length _ _ (sym c.item_fault-fault.ensures ∙ c.if-fault-ne0.false)

pub returns : goal.returns
unfolding closed settled
returns c = rw (eq-eqb _ 0 c.if-item-ne0.false, ← c.item_fault-fault.ensures, eq-eqb _ 0 c.if-fault-ne0.false, c.with_range.ensures, c.first_of.ensures)
