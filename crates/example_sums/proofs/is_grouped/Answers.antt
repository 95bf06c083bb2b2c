-- `example_sums::is_grouped` meets its contract: its tests are those of the definition. Assumes nothing.
use mathlib.Core.Path.{refl}
use Rattle.example.specs.Cards.{grouped}
use Rattle.example_sums.proofs.is_grouped.Goals as goal

pub returns : goal.returns
unfolding grouped
returns c = refl
