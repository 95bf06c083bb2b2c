-- `objects_list::close` meets its contract, by whether there is a refusal. Assumes nothing.
use borrow.Author.Tests.{ne_eqb}
use Rattle.objects_list.proofs.close.Goals as goal

pub returns-then-refusal-ne0 : goal.returns-then-refusal-ne0
returns-then-refusal-ne0 c = rw (ne_eqb _ _ c.if-refusal-ne0.true) c.refused.ensures

pub returns : goal.returns
returns c = rw (c.if-refusal-ne0.false, c.none.ensures)
