-- `check_position` meets its contract: the file's own refusal comes first, then that of the position. Assumes nothing.
use mathlib.Core.Path.{ap, ap₂, ◌∙◌}
use Prim.Native.Nat.{ℕ}
use Rattle.card.specs.Refusals.{or_else}
use Rattle.day.specs.Calls.{image_refusal, past_refusal}
use Rattle.day_read.proofs.check_position.Goals as goal

pub returns : goal.returns
unfolding image_refusal past_refusal
returns c =
    let a = c.args in
    c.or_else.ensures ∙ ap₂ or_else c.check.ensures (c.refuse_position-past.ensures ∙ ap (λ (n : ℕ). past_refusal a.position n) c.count_in.ensures)
