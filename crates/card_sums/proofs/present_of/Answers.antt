-- `card_sums::present_of` meets its contract: a length is 0 or it is not. Assumes nothing.
use borrow.Author.Tests.{eq-eqb, ne_eqb}
use Rattle.card_sums.proofs.present_of.Goals as goal

pub returns-then-length-eq0 : goal.returns-then-length-eq0
returns-then-length-eq0 c = rw (eq-eqb _ _ c.if-length-eq0.true)

pub returns-else-length-eq0 : goal.returns-else-length-eq0
returns-else-length-eq0 c = rw (ne_eqb _ _ c.if-length-eq0.false)
