-- `rewriting::refuse_input` meets its contract: the sizes are told first, and the table of places tells what a reading tells. Assumes nothing.
use mathlib.Core.Path.{sym, ap, ◌∙◌}
use Rattle.card.specs.declared.Refusal.{Refusal}
use Rattle.card.specs.declared.Places.{Places}
use Rattle.card.proofs.Chains.{or_pass, or_stop}
use Rattle.rewriting.specs.Checking.{input_refusal}
use Rattle.rewriting.proofs.Refused.{one_refusal}
use Rattle.rewriting.proofs.refuse_input.Goals as goal

pub returns-then-refusal-ne0 : goal.returns-then-refusal-ne0
unfolding input_refusal
returns-then-refusal-ne0 c =
    let told = c.refuse_sizes-refusal.ensures in
    told ∙ sym (or_stop _ _ (λ z. c.if-refusal-ne0.true (ap (λ (x : Refusal). x.number) told ∙ z)))

pub returns : goal.returns
unfolding input_refusal
returns c =
    let told = c.refuse_sizes-refusal.ensures in
    ap (λ (p : Places). p.refusal) c.places.ensures ∙ one_refusal _ _ ∙ sym (or_pass _ _ (sym (ap (λ (x : Refusal). x.number) told) ∙ c.if-refusal-ne0.false))
