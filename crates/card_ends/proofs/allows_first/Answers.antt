-- `card_ends::allows_first` meets its contract: the three bytes are compared in the order of the definition. Assumes nothing.
use mathlib.Core.Path.{refl}
use Rattle.card.specs.Rules.{first_allowed}
use Rattle.card_ends.proofs.allows_first.Goals as goal

pub returns : goal.returns
unfolding first_allowed
returns c = refl
