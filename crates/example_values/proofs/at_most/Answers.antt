-- `example_values::at_most` meets its contract, by its test. Assumes nothing.
use native.Mathlib.Omega.{arith}
use borrow.Author.Tests.{lt-ltb, le-ltb}
use Rattle.example.specs.Cards.{at_most}
use Rattle.example_values.proofs.at_most.Goals as goal

pub returns-then-n-gt28 : goal.returns-then-n-gt28
unfolding at_most
returns-then-n-gt28 c = record { value = rw (lt-ltb _ _ c.if-n-gt28.true); upper_bound = omega arith }

pub returns-else-n-gt28 : goal.returns-else-n-gt28
unfolding at_most
returns-else-n-gt28 c = record { value = rw (le-ltb _ _ c.if-n-gt28.false); upper_bound = omega arith }
