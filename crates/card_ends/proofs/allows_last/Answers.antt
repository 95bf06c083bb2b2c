-- `card_ends::allows_last` meets its contract: 'FF' is asked only behind '82', as in the definition. Assumes nothing.
use mathlib.Core.Path.{refl}
use Rattle.card.specs.Rules.{last_allowed}
use Rattle.card_ends.proofs.allows_last.Goals as goal

pub returns : goal.returns
unfolding last_allowed
returns c = refl
