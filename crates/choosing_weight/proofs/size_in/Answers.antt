-- `choosing_weight::size_in` meets its contract: the three sizes are those of the definition. Assumes nothing.
use native.Mathlib.Omega.{arith}
use Rattle.choosing.specs.Choices.{size_in}
use Rattle.choosing_weight.proofs.size_in.Goals as goal

pub returns : goal.returns
unfolding size_in
returns c = record { value = rw (c.size_of.ensures.value, c.size_of-2.ensures.value, c.size_of-3.ensures.value); upper_bound = omega arith }
