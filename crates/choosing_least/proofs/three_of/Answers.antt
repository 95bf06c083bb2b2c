-- `choosing_least::three_of` meets its contract: the digits of the number to the base 29. Assumes nothing.
use mathlib.Core.Path.{refl}
use Rattle.choosing.specs.Choices.{three_of}
use Rattle.choosing_least.proofs.three_of.Goals as goal

pub returns : goal.returns
unfolding three_of
returns c = refl
