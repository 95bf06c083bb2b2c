-- `choosing_weight::size_of` meets its contract: a length is 0 or it is not. Assumes nothing.
use native.Mathlib.Omega.{arith}
use borrow.Author.Tests.{eq-eqb, ne_eqb}
use borrow.Author.Rules.{rules}
use Rattle.choosing.specs.Choices.{size_of}
use Rattle.choosing_weight.proofs.size_of.Goals as goal

pub returns-then-n-eq0 : goal.returns-then-n-eq0
unfolding size_of
returns-then-n-eq0 c = record { value = rw (eq-eqb _ _ c.if-n-eq0.true); upper_bound = omega arith }

pub returns-else-n-eq0 : goal.returns-else-n-eq0
unfolding size_of
returns-else-n-eq0 c = record { value = rw (ne_eqb _ _ c.if-n-eq0.false); upper_bound = search rules }
