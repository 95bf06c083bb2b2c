-- `day_many::check_cards` meets its contract. The invariant: what the images from k on tell, all tell. Assumes nothing.
use mathlib.Core.Path.{◌≡◌}
use Rattle.ground.specs.Pieces.{pieces}
use Rattle.day.specs.Files.{cards_refusal}
use Rattle.day.proofs.Turns.{refusal_from}
use Rattle.day_many.proofs.check_cards.Given as goal

abbrev pub invariant-loop-k : goal.invariant-loop-k
invariant-loop-k l = refusal_from l.images l.count l.k ≡ cards_refusal 0 (pieces 256 l.count l.images)
