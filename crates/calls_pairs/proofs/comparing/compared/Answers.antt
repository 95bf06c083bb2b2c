-- `comparing::compared` meets its contract: the tests are those of the code, then by the contract of `compare`. Assumes nothing.
use mathlib.Core.Path.{ap, ◌∙◌}
use borrow.Author.Tests.{eq-eqb, ne_eqb}
use Rattle.edition.specs.declared.Edition.{Edition}
use Rattle.card.specs.Refusals.{gate}
use Rattle.differences.specs.Answers.{compared}
use Rattle.wire_tables.proofs.Sizes.{lent_edition_lem}
use Rattle.calls_pairs.specs.Comparing.{table_compared}
use Rattle.calls_pairs.proofs.comparing.compared.Goals as goal

pub returns-then-first-ne256 : goal.returns-then-first-ne256
unfolding gate table_compared
returns-then-first-ne256 c = rw (ne_eqb _ _ c.if-first-ne256.true) c.refused_list.ensures

pub returns-then-table-ne103 : goal.returns-then-table-ne103
unfolding gate table_compared
returns-then-table-ne103 c = rw (eq-eqb _ _ c.if-first-ne256.false, ne_eqb _ _ c.if-table-ne103.true) c.refused_list-then-table-ne103.ensures

pub returns : goal.returns
unfolding gate table_compared
returns c =
    let a = c.args in
    rw (eq-eqb _ _ c.if-first-ne256.false, eq-eqb _ _ c.if-table-ne103.false)
    (c.compare.ensures ∙ ap (λ (e : Edition). compared e a.first.now a.second.now) (c.edition_of.ensures ∙ lent_edition_lem _ c.if-table-ne103.false))
