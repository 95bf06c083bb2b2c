-- `choosing_sums::place` meets its contract, by its test. Assumes nothing.
use Rattle.choosing.specs.Choices.{placed}
use Rattle.choosing_sums.proofs.place.Goals as goal

pub returns-then-names : goal.returns-then-names
unfolding placed
returns-then-names c = rw c.if-names.true

pub returns-else-names : goal.returns-else-names
unfolding placed
returns-else-names c = rw c.if-names.false
