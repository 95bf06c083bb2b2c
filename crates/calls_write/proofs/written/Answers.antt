-- `written` meets its contract: the tests are those of the code, then by the contract of the writer. Assumes nothing.
use mathlib.Core.Path.{refl}
use borrow.Author.Tests.{eq-eqb, ne_eqb}
use Rattle.card.specs.Refusals.{gate}
use Rattle.checks.specs.Lending.{lent_refusal}
use Rattle.writer.specs.Storing.{lent_after}
use Rattle.wire_tables.proofs.Sizes.{lent_edition_lem}
use Rattle.wire_records.proofs.Sizes.{lent_record_lem}
use Rattle.calls_cards.specs.Calls.{kvk_write, kvk_write_image}
use Rattle.calls_write.proofs.written.Goals as goal

pub returns-then-bytes-ne479-clause-value : goal.returns-then-bytes-ne479-clause-value
unfolding gate kvk_write kvk_write_image
returns-then-bytes-ne479-clause-value c = rw (ne_eqb _ 479 c.if-bytes-ne479.true) (c.new.ensures)

pub returns-then-bytes-ne479-clause-image_after : goal.returns-then-bytes-ne479-clause-image_after
unfolding gate kvk_write kvk_write_image
returns-then-bytes-ne479-clause-image_after c = rw (ne_eqb _ 479 c.if-bytes-ne479.true) (refl)

pub returns-then-image-ne256-clause-value : goal.returns-then-image-ne256-clause-value
unfolding gate kvk_write kvk_write_image
returns-then-image-ne256-clause-value c = rw (eq-eqb _ _ c.if-bytes-ne479.false, ne_eqb _ _ c.if-image-ne256.true) (c.new-then-image-ne256.ensures)

pub returns-then-image-ne256-clause-image_after : goal.returns-then-image-ne256-clause-image_after
unfolding gate kvk_write kvk_write_image
returns-then-image-ne256-clause-image_after c = rw (eq-eqb _ _ c.if-bytes-ne479.false, ne_eqb _ _ c.if-image-ne256.true) (refl)

pub returns-then-table-ne103-clause-value : goal.returns-then-table-ne103-clause-value
unfolding gate kvk_write kvk_write_image
returns-then-table-ne103-clause-value c =
    rw (eq-eqb _ _ c.if-bytes-ne479.false, eq-eqb _ _ c.if-image-ne256.false, ne_eqb _ _ c.if-table-ne103.true)
    (c.new-then-table-ne103.ensures)

pub returns-then-table-ne103-clause-image_after : goal.returns-then-table-ne103-clause-image_after
unfolding gate kvk_write kvk_write_image
returns-then-table-ne103-clause-image_after c =
    rw (eq-eqb _ 479 c.if-bytes-ne479.false, eq-eqb _ _ c.if-image-ne256.false, ne_eqb _ _ c.if-table-ne103.true)
    (refl)

pub returns : goal.returns
unfolding gate kvk_write kvk_write_image lent_refusal lent_after
returns c =
    let sized = c.if-bytes-ne479.false in
    rw (eq-eqb _ _ sized, eq-eqb _ _ c.if-image-ne256.false, eq-eqb _ _ c.if-table-ne103.false)
    (let w = rw (eq-eqb _ _ sized, lent_edition_lem _ c.if-table-ne103.false, lent_record_lem _ sized) at c.write_lent.ensures in
    record { value = w.value; image_after = w.buffer_after })
