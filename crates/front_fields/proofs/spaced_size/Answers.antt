-- `front_fields::spaced_size` meets its contract, by its test. Assumes nothing.
use Rattle.front.specs.Placing.{spaced_size}
use Rattle.front_fields.proofs.spaced_size.Goals as goal

pub returns-then-names-n : goal.returns-then-names-n
unfolding spaced_size
returns-then-names-n c = rw c.if-names-n.true

pub returns : goal.returns
unfolding spaced_size
returns c = rw c.if-names-n.false
