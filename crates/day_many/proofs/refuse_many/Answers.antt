-- `refuse_many` meets its contract: a card that is refused is told before there being too many. Assumes nothing.
use mathlib.Core.Path.{ap₂, ◌∙◌}
use Rattle.card.specs.Refusals.{or_else}
use Rattle.day.specs.Calls.{laid_images}
use Rattle.day_many.proofs.refuse_many.Goals as goal

pub returns : goal.returns
unfolding laid_images
returns c = c.or_else.ensures ∙ ap₂ or_else c.check_cards.ensures c.new.ensures
