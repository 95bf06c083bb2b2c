-- The clause stands as the place of a refusal with no number, and yes is told as 1. Assumes nothing.
use mathlib.Core.Path.{◌≡◌, refl, ap, ◌∙◌}
use mathlib.Core.Bool.{Bool, true, false, cond}
use mir.Val.{bool_byte}
use lib.Dec.{eqb}
use Rattle.card.specs.declared.Refusal.{Refusal}
use Rattle.card.specs.Refusals.{refuse}
use Rattle.wire.specs.Answers.{valued}
use Rattle.calls_tables.specs.Nestings.{packed_nesting}
use Rattle.calls_tables.proofs.pack_nesting.Goals as goal

one_or_none : (q : Bool) → bool_byte q ≡ cond q 1 0
one_or_none true = refl
one_or_none false = refl

pub returns : goal.returns
unfolding packed_nesting
returns c =
    let a = c.args.answer in
    c.pack_value.ensures
    ∙ ap (valued c.new-shown.result) (one_or_none (eqb a.clause 0))
    ∙ ap (λ (x : Refusal). valued x (cond (eqb a.clause 0) 1 0)) (c.new-shown.ensures ∙ ap (refuse 0 a.clause) c.tag_of.ensures)
