-- `choosing_fits::will_do` meets its contract: a length is 0 or it is not. Assumes nothing.
use borrow.Author.Tests.{eq-eqb, ne_eqb}
use Rattle.choosing.specs.Choices.{will_do}
use Rattle.choosing_fits.proofs.will_do.Goals as goal

pub returns-then-n-eq0 : goal.returns-then-n-eq0
unfolding will_do
returns-then-n-eq0 c = rw (eq-eqb _ _ c.if-n-eq0.true) c.may_lack.ensures

pub returns : goal.returns
unfolding will_do
returns c = rw (ne_eqb _ _ c.if-n-eq0.false) c.permits.ensures
