-- `renumber::renumber` meets its contract: what is refused comes back as it came, and else the number is put on. Assumes nothing.
use mathlib.Core.Path.{sym, ap, ◌∙◌}
use borrow.Author.Tests.{eq-eqb, ne_eqb}
use Rattle.card.specs.declared.Refusal.{Refusal}
use Rattle.card.specs.Writing.{renumber_refusal, renumbered}
use Rattle.renumber.proofs.renumber.Goals as goal

pub returns-then-refusal-ne0 : goal.returns-then-refusal-ne0
unfolding renumbered
returns-then-refusal-ne0 c =
    let a = c.args in
    let told = c.check_content-refusal.ensures in
    let some = ne_eqb (renumber_refusal a.edition a.content).number 0 (λ z. c.if-refusal-ne0.true (ap (λ (x : Refusal). x.number) told ∙ z)) in
    rw (some, told)

pub returns : goal.returns
unfolding renumbered
returns c =
    let a = c.args in
    let told = c.check_content-refusal.ensures in
    let none = eq-eqb (renumber_refusal a.edition a.content).number 0 (ap (λ (x : Refusal). x.number) (sym told) ∙ c.if-refusal-ne0.false) in
    rw (none, told)
