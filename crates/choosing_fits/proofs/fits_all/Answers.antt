-- `choosing_fits::fits_all` meets its contract: the first of three lengths that will not do decides, and else the sum. Assumes nothing.
use borrow.Author.Tests.{not-true, not-false}
use Rattle.choosing.specs.Choices.{fits}
use Rattle.choosing_fits.proofs.fits_all.Goals as goal

pub returns-then-not-will_do : goal.returns-then-not-will_do
unfolding fits
returns-then-not-will_do c = rw (← c.will_do.ensures, not-true c.will_do.result c.if-not-will_do.true-raw)

pub returns-then-not-will_do-2 : goal.returns-then-not-will_do-2
unfolding fits
returns-then-not-will_do-2 c =
    rw (← c.will_do.ensures, not-false c.will_do.result c.if-not-will_do.false-raw, ← c.will_do-2.ensures, not-true c.will_do-2.result c.if-not-will_do-2.true-raw)

pub returns-then-not-will_do-3 : goal.returns-then-not-will_do-3
unfolding fits
returns-then-not-will_do-3 c =
    rw (← c.will_do.ensures, not-false c.will_do.result c.if-not-will_do.false-raw, ← c.will_do-2.ensures, not-false c.will_do-2.result c.if-not-will_do-2.false-raw, ← c.will_do-3.ensures, not-true c.will_do-3.result c.if-not-will_do-3.true-raw)

pub returns : goal.returns
unfolding fits
returns c =
    rw (← c.will_do.ensures, not-false c.will_do.result c.if-not-will_do.false-raw, ← c.will_do-2.ensures, not-false c.will_do-2.result c.if-not-will_do-2.false-raw, ← c.will_do-3.ensures, not-false c.will_do-3.result c.if-not-will_do-3.false-raw) c.sum_fits.ensures
