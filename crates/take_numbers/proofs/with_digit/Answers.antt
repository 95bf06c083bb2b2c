-- `take_numbers::with_digit` meets its contract, by its tests. Assumes nothing.
use borrow.Author.Tests.{eq-eqb, ne_eqb, lt-ltb, le-ltb}
use Rattle.table_take.specs.Numbers.{with_digit}
use Rattle.take_numbers.proofs.with_digit.Goals as goal

pub returns-then-number-eq-NOTHING : goal.returns-then-number-eq-NOTHING
unfolding with_digit
returns-then-number-eq-NOTHING c = rw (eq-eqb _ 258 c.if-number-eq-NOTHING.true)

pub returns-then-number-gt256 : goal.returns-then-number-gt256
unfolding with_digit
returns-then-number-gt256 c = rw (ne_eqb _ 258 c.if-number-eq-NOTHING.false, lt-ltb 256 _ c.if-number-gt256.true)

pub returns-then-more-gt255 : goal.returns-then-more-gt255
unfolding with_digit
returns-then-more-gt255 c = rw (ne_eqb _ 258 c.if-number-eq-NOTHING.false, le-ltb 256 _ c.if-number-gt256.false, lt-ltb 255 _ c.if-more-gt255.true)

pub returns : goal.returns
unfolding with_digit
returns c = rw (ne_eqb _ 258 c.if-number-eq-NOTHING.false, le-ltb 256 _ c.if-number-gt256.false, le-ltb 255 _ c.if-more-gt255.false)
