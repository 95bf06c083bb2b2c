-- `text_checks::fault_at`: what the line speaks of, and where its letters end. Assumes nothing.
use mathlib.Core.Path.{ap, ◌∙◌}
use Rattle.card_text.specs.Faults.{letters_taken}
use Rattle.card_text.proofs.Told.{fault_told}
use Rattle.text_checks.proofs.fault_at.Goals as goal

pub returns : goal.returns
returns c = fault_told _ _ _ _ _ c.key_of.ensures (c.count_letters.ensures ∙ ap letters_taken c.value_in.ensures)
