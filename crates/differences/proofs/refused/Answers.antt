-- `differences::refused` meets its contract: thirty zeros. Assumes nothing.
use mathlib.Core.Path.{refl}
use Rattle.differences.specs.Answers.{thirty}
use Rattle.differences.proofs.refused.Goals as goal

pub returns : goal.returns
unfolding thirty
returns c = refl
