-- `size_with` meets its contract, by whether the object is there. Assumes nothing.
use native.Mathlib.Omega.{arith}
use borrow.Author.Tests.{eq-eqb, ne_eqb}
use Rattle.object_sizes.proofs.size_with.Goals as goal

pub returns-then-count-eq0 : goal.returns-then-count-eq0
returns-then-count-eq0 c = record { upper_bound = omega arith; value = rw (eq-eqb _ _ c.if-count-eq0.true) }

pub returns-else-count-eq0 : goal.returns-else-count-eq0
returns-else-count-eq0 c = record { upper_bound = omega arith; value = rw (ne_eqb _ _ c.if-count-eq0.false) }
