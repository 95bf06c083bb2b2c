-- `months_of` meets its contract: two digits are the month and two the year, and a year is twelve months; each step is the definition's. Assumes nothing.
use Rattle.fresher.specs.Comparing.{months_of}
use Rattle.fresher_months.proofs.months_of.Goals as goal

pub returns : goal.returns
unfolding months_of
returns c =
    rw (c.two-year.ensures, c.two-month.ensures, c.digit_at-4.ensures.value, c.digit_at-3.ensures.value, c.digit_at-2.ensures.value, c.digit_at.ensures.value)
