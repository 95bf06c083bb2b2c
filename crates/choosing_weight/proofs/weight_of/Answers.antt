-- `choosing_weight::weight_of` meets its contract: what does not fit is told first, and else the bytes decide. Assumes nothing.
use native.Mathlib.Omega.{arith}
use borrow.Author.Tests.{not-true, not-false}
use Rattle.choosing.specs.Choices.{weight}
use Rattle.choosing_weight.proofs.weight_of.Goals as goal

pub returns-then-not-fits_all : goal.returns-then-not-fits_all
unfolding weight
returns-then-not-fits_all c = rw (← c.fits_all.ensures, not-true c.fits_all.result c.if-not-fits_all.true-raw)

pub overflow_sub-result : goal.overflow_sub-result
overflow_sub-result c = omega (arith, c.size_in-size.ensures.upper_bound)

pub returns-then-long : goal.returns-then-long
unfolding weight
returns-then-long c = rw (← c.fits_all.ensures, not-false c.fits_all.result c.if-not-fits_all.false-raw, c.if-long.true, c.size_in-size.ensures.value)

pub returns-else-long : goal.returns-else-long
unfolding weight
returns-else-long c = rw (← c.fits_all.ensures, not-false c.fits_all.result c.if-not-fits_all.false-raw, c.if-long.false, c.size_in-size.ensures.value)
