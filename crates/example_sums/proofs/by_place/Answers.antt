-- `example_sums::by_place` meets its contract, by its tests. Assumes nothing.
use borrow.Author.Tests.{eq-eqb, ne_eqb}
use Rattle.example.specs.Cards.{by_place}
use Rattle.example_sums.proofs.by_place.Goals as goal

pub returns-then-place-eq0 : goal.returns-then-place-eq0
unfolding by_place
returns-then-place-eq0 c = rw (eq-eqb _ _ c.if-place-eq0.true)

pub returns-then-place-eq1 : goal.returns-then-place-eq1
unfolding by_place
returns-then-place-eq1 c = rw (ne_eqb _ _ c.if-place-eq0.false, eq-eqb _ _ c.if-place-eq1.true)

pub returns-else-place-eq1 : goal.returns-else-place-eq1
unfolding by_place
returns-else-place-eq1 c = rw (ne_eqb _ _ c.if-place-eq0.false, ne_eqb _ _ c.if-place-eq1.false)
