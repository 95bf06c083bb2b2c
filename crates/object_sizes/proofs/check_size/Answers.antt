-- `check_size` meets its contract, test by test. Assumes nothing.
use Rattle.card.specs.Refusals.{gate}
use Rattle.object_sizes.specs.Sizes.{size_refusal}
use Rattle.object_sizes.proofs.check_size.Goals as goal

pub returns-then-length : goal.returns-then-length
unfolding size_refusal gate
returns-then-length c = rw c.if-length.true

pub returns-else-length : goal.returns-else-length
unfolding size_refusal gate
returns-else-length c = rw c.if-length.false c.new.ensures
