-- `shipped` meets its contract: the tests are those of the code. Assumes nothing.
use borrow.Author.Tests.{eq-eqb, ne_eqb}
use Rattle.calls_shipped.proofs.shipped.Goals as goal

pub returns-then-which-eq1 : goal.returns-then-which-eq1
returns-then-which-eq1 c = rw (c.terminal.ensures, eq-eqb _ _ c.if-which-eq1.true)

pub returns-else-which-eq1 : goal.returns-else-which-eq1
returns-else-which-eq1 c = rw (c.issue.ensures, ne_eqb _ _ c.if-which-eq1.false)
