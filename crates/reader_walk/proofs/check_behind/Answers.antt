-- `reader_walk::check_behind` meets its contract: each link where those before it refuse nothing. Assumes nothing.
use mathlib.Core.Path.{sym, ap, ◌∙◌}
use Rattle.card.specs.declared.Refusal.{Refusal}
use Rattle.card.proofs.Chains.{or_pass, or_stop}
use Rattle.reader_steps.proofs.Tables.{end_is}
use Rattle.reader_walk.proofs.check_behind.Goals as goal

pub returns-then-sums-ne0 : goal.returns-then-sums-ne0
returns-then-sums-ne0 c =
    let sums = c.check_sums-sums.ensures in
    sums ∙ sym (or_stop _ _ (λ z. c.if-sums-ne0.true (ap (λ (x : Refusal). x.number) sums ∙ z)))

pub returns : goal.returns
returns c =
    let sums = c.check_sums-sums.ensures in
    c.check_end.ensures
    ∙ end_is _ _ c.requires
    ∙ sym (or_pass _ _ (ap (λ (x : Refusal). x.number) (sym sums) ∙ c.if-sums-ne0.false))
