-- `pulling::refuse_table` meets its contract: the sizes are told first. Assumes nothing.
use mathlib.Core.Path.{sym, ap, ◌∙◌}
use Rattle.card.specs.declared.Refusal.{Refusal}
use Rattle.card.proofs.Chains.{or_pass, or_stop}
use Rattle.calls_plans.specs.Pulling.{no_table}
use Rattle.calls_plans.proofs.refuse_table.Goals as goal

pub returns-then-refusal-ne0 : goal.returns-then-refusal-ne0
unfolding no_table
returns-then-refusal-ne0 c =
    let told = c.refuse_sizes-refusal.ensures in
    told ∙ sym (or_stop _ _ (λ z. c.if-refusal-ne0.true (ap (λ (x : Refusal). x.number) told ∙ z)))

pub returns : goal.returns
unfolding no_table
returns c =
    let told = c.refuse_sizes-refusal.ensures in
    c.new.ensures ∙ sym (or_pass _ _ (sym (ap (λ (x : Refusal). x.number) told) ∙ c.if-refusal-ne0.false))
