-- `take_lines::stored` meets its contract: the number, or the row that was due. Assumes nothing.
use borrow.Author.Tests.{eq-eqb, ne_eqb}
use Rattle.table_take.specs.Taking.{stored}
use Rattle.take_lines.proofs.stored.Goals as goal

pub returns-then-due-eq0 : goal.returns-then-due-eq0
unfolding stored
returns-then-due-eq0 c = rw (eq-eqb _ 0 c.if-due-eq0.true)

pub returns : goal.returns
unfolding stored
returns c = rw (ne_eqb _ 0 c.if-due-eq0.false, c.rule_by.ensures)
