-- `edition` meets its contract: the tests are those of the code. Assumes nothing.
use mathlib.Core.Path.{refl, ap, ◌∙◌}
use mathlib.Core.Bool.{◌||◌}
use lib.Dec.{eqb}
use borrow.Author.Tests.{eq-eqb, ne_eqb, not-true, not-false}
use Rattle.card.specs.Refusals.{gate}
use Rattle.wire_tables.specs.Tables.{table_bytes}
use Rattle.wire_tables.proofs.Sizes.{table_room_lem}
use Rattle.wire.specs.Answers.{packed}
use Rattle.calls_cards.specs.Calls.{kvk_edition, kvk_edition_room}
use Rattle.calls_shipped.proofs.edition.Goals as goal

pub returns-then-room-ne103-clause-value : goal.returns-then-room-ne103-clause-value
unfolding gate kvk_edition kvk_edition_room
returns-then-room-ne103-clause-value c = rw (ne_eqb _ _ c.if-room-ne103.true) (c.pack.ensures ∙ ap packed c.new.ensures)

pub returns-then-room-ne103-clause-room_after : goal.returns-then-room-ne103-clause-room_after
unfolding gate kvk_edition kvk_edition_room
returns-then-room-ne103-clause-room_after c = rw (ne_eqb _ _ c.if-room-ne103.true) (refl)

pub returns-then-not-known-clause-value : goal.returns-then-not-known-clause-value
unfolding gate kvk_edition kvk_edition_room
returns-then-not-known-clause-value c =
    let which = c.args.which in
    rw (eq-eqb _ _ c.if-room-ne103.false, not-true (eqb which 1 || eqb which 2) c.if-not-known.true-raw)
    (c.pack-then-not-known.ensures ∙ ap packed c.new-then-not-known.ensures)

pub returns-then-not-known-clause-room_after : goal.returns-then-not-known-clause-room_after
unfolding gate kvk_edition kvk_edition_room
returns-then-not-known-clause-room_after c =
    let which = c.args.which in
    rw (eq-eqb _ _ c.if-room-ne103.false, not-true (eqb which 1 || eqb which 2) c.if-not-known.true-raw)
    (refl)

pub returns-clause-value : goal.returns-clause-value
unfolding gate kvk_edition kvk_edition_room
returns-clause-value c =
    let which = c.args.which in
    rw (eq-eqb _ _ c.if-room-ne103.false, not-false (eqb which 1 || eqb which 2) c.if-not-known.false-raw)
    (refl)

pub returns-clause-room_after : goal.returns-clause-room_after
unfolding gate kvk_edition kvk_edition_room
returns-clause-room_after c =
    let which = c.args.which in
    rw (eq-eqb _ _ c.if-room-ne103.false, not-false (eqb which 1 || eqb which 2) c.if-not-known.false-raw)
    (c.write_table.ensures ∙ table_room_lem _ _ c.if-room-ne103.false ∙ ap table_bytes c.shipped.ensures)
