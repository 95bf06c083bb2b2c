-- `places_of` meets its contract: the tests are those of the code, then by the contract of the reader. Assumes nothing.
use mathlib.Core.Path.{ap, ◌∙◌}
use borrow.Author.Tests.{eq-eqb, ne_eqb}
use Rattle.edition.specs.declared.Edition.{Edition}
use Rattle.card.specs.Refusals.{gate}
use Rattle.card.specs.Places.{no_places, places}
use Rattle.wire_tables.proofs.Sizes.{lent_edition_lem}
use Rattle.calls_cards.specs.PlaceCalls.{table_places}
use Rattle.calls_places.proofs.places_of.Goals as goal

pub returns-then-image-ne256 : goal.returns-then-image-ne256
unfolding gate table_places
returns-then-image-ne256 c =
    rw (ne_eqb _ 256 c.if-image-ne256.true) (c.refused.ensures ∙ ap no_places c.new.ensures)

pub returns-then-table-ne103 : goal.returns-then-table-ne103
unfolding gate table_places
returns-then-table-ne103 c =
    rw (eq-eqb _ _ c.if-image-ne256.false, ne_eqb _ 103 c.if-table-ne103.true) (c.refused-then-table-ne103.ensures ∙ ap no_places c.new-then-table-ne103.ensures)

pub returns : goal.returns
unfolding gate table_places
returns c =
    let image = c.args.image.now in
    rw (eq-eqb _ _ c.if-image-ne256.false, eq-eqb _ _ c.if-table-ne103.false)
    (c.places_lent.ensures ∙ ap (λ (e : Edition). places e image) (lent_edition_lem _ c.if-table-ne103.false))
