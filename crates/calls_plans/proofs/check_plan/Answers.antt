-- `check_plan` meets its contract: the test is that of the code, then by the contract of `check_plan`. Assumes nothing.
use mathlib.Core.Path.{◌≡◌, refl, ap, ◌∙◌}
use mathlib.Core.Bool.{Bool, true, false, cond}
use mir.Val.{bool_byte}
use borrow.Author.Tests.{eq-eqb, ne_eqb}
use Rattle.edition.specs.declared.Edition.{Edition}
use Rattle.card.specs.Refusals.{gate}
use Rattle.rewriting.specs.declared.Checked.{Checked}
use Rattle.rewriting.specs.Checking.{checked}
use Rattle.wire.specs.Answers.{packed, valued}
use Rattle.wire_tables.proofs.Sizes.{lent_edition_lem}
use Rattle.calls_plans.specs.Pulling.{kvk_check_plan}
use Rattle.calls_plans.proofs.check_plan.Goals as goal

one_or_none : (q : Bool) → bool_byte q ≡ cond q 1 0
one_or_none true = refl
one_or_none false = refl

pub returns-then-table-ne103 : goal.returns-then-table-ne103
unfolding gate kvk_check_plan
returns-then-table-ne103 c = rw (ne_eqb _ _ c.if-table-ne103.true) (c.pack.ensures ∙ ap packed c.refuse_table.ensures)

pub returns : goal.returns
unfolding gate kvk_check_plan
returns c =
    let a = c.args in
    let is = c.edition_of.ensures ∙ lent_edition_lem _ c.if-table-ne103.false in
    rw (eq-eqb _ _ c.if-table-ne103.false)
    (c.pack_value.ensures
    ∙ ap (valued c.check_plan-checked.result.refusal) (one_or_none c.check_plan-checked.result.safe)
    ∙ ap (λ (x : Checked). valued x.refusal (cond x.safe 1 0)) (c.check_plan-checked.ensures ∙ ap (λ (e : Edition). checked e a.old.now a.new.now a.steps.now) is))
