-- `card::Places::refused` meets its contract: the definition is written out. Assumes nothing.
use mathlib.Core.Path.{refl}
use Rattle.card.specs.Places.{no_places}
use Rattle.card.proofs.Places.refused.Goals as goal

pub returns : goal.returns
unfolding no_places
returns c = refl
