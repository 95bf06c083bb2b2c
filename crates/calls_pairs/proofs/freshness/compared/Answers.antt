-- `compared` meets its contract: a table of another size is told as 2, behind the size of the first image; else the table is an edition, and the cards are compared under it. Assumes nothing.
use mathlib.Core.Path.{ap, ◌∙◌}
use borrow.Author.Tests.{eq-eqb, ne_eqb}
use Rattle.edition.specs.declared.Edition.{Edition}
use Rattle.card.specs.Refusals.{gate}
use Rattle.fresher.specs.Comparing.{fresher_of}
use Rattle.wire_tables.proofs.Sizes.{lent_edition_lem}
use Rattle.calls_pairs.specs.Fresher.{table_fresher}
use Rattle.calls_pairs.proofs.freshness.compared.Goals as goal

pub returns-then-first-ne256 : goal.returns-then-first-ne256
unfolding gate table_fresher
returns-then-first-ne256 c = rw (ne_eqb _ _ c.if-table-ne103.true, ne_eqb _ _ c.if-first-ne256.true) c.compare_none.ensures

pub returns-then-table-ne103 : goal.returns-then-table-ne103
unfolding gate table_fresher
returns-then-table-ne103 c = rw (ne_eqb _ _ c.if-table-ne103.true, eq-eqb _ _ c.if-first-ne256.false) c.compare_none-then-table-ne103.ensures

pub returns : goal.returns
unfolding gate table_fresher
returns c =
    let a = c.args in
    rw (eq-eqb _ _ c.if-table-ne103.false)
    (c.compare.ensures ∙ ap (λ (x : Edition). fresher_of x a.first.now a.second.now) (c.edition_of.ensures ∙ lent_edition_lem _ c.if-table-ne103.false))
