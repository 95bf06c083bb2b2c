-- `renumber_refusal` meets its contract: the sizes, then by the contract of `renumber`. Assumes nothing.
use mathlib.Core.Path.{ap, ap₂, ◌∙◌}
use borrow.Author.Tests.{eq-eqb, ne_eqb}
use Rattle.card.specs.Refusals.{gate}
use Rattle.card.specs.Writing.{renumber_refusal}
use Rattle.renumber.specs.declared.Renumbered.{Renumbered}
use Rattle.wire_tables.proofs.Sizes.{lent_edition_lem}
use Rattle.wire_records.proofs.Sizes.{lent_record_lem}
use Rattle.calls_cards.specs.Calls.{kvk_renumber}
use Rattle.calls_renumber.proofs.renumber_refusal.Goals as goal

pub returns-then-bytes-ne479 : goal.returns-then-bytes-ne479
unfolding gate kvk_renumber
returns-then-bytes-ne479 c = rw (ne_eqb _ 479 c.if-bytes-ne479.true) c.new.ensures

pub returns-then-table-ne103 : goal.returns-then-table-ne103
unfolding gate kvk_renumber
returns-then-table-ne103 c = rw (eq-eqb _ 479 c.if-bytes-ne479.false, ne_eqb _ 103 c.if-table-ne103.true) c.new-then-table-ne103.ensures

pub returns : goal.returns
unfolding gate kvk_renumber
returns c =
    let told = c.renumber.ensures in
    let bytes = c.record_of.ensures ∙ lent_record_lem _ c.if-bytes-ne479.false in
    let table = c.edition_of.ensures ∙ lent_edition_lem _ c.if-table-ne103.false in
    rw (eq-eqb _ 479 c.if-bytes-ne479.false, eq-eqb _ 103 c.if-table-ne103.false)
    (ap (λ (t : Renumbered). t.refusal) told ∙ ap₂ renumber_refusal table bytes)
