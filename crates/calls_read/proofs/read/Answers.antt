-- `read` meets its contract: a room of another size is left, and else holds the record that was read. Assumes nothing.
use mathlib.Core.Path.{refl, ap, ◌∙◌}
use borrow.Author.Tests.{eq-eqb, ne_eqb}
use Rattle.card.specs.Refusals.{gate}
use Rattle.wire.specs.Answers.{packed}
use Rattle.calls_cards.specs.Calls.{kvk_read, kvk_read_room}
use Rattle.calls_read.proofs.read.Goals as goal

pub returns-then-room-ne479-clause-value : goal.returns-then-room-ne479-clause-value
unfolding gate kvk_read kvk_read_room
returns-then-room-ne479-clause-value c =
    rw (ne_eqb _ 479 c.if-room-ne479.true) (c.pack.ensures ∙ ap packed c.new.ensures)

pub returns-then-room-ne479-clause-room_after : goal.returns-then-room-ne479-clause-room_after
unfolding gate kvk_read kvk_read_room
returns-then-room-ne479-clause-room_after c =
    rw (ne_eqb _ 479 c.if-room-ne479.true) (refl)

pub returns-clause-value : goal.returns-clause-value
unfolding gate kvk_read kvk_read_room
returns-clause-value c =
    rw (eq-eqb _ _ c.if-room-ne479.false) (c.pack-2.ensures ∙ ap packed c.fill.ensures.value)

pub returns-clause-room_after : goal.returns-clause-room_after
unfolding gate kvk_read kvk_read_room
returns-clause-room_after c =
    rw (eq-eqb _ _ c.if-room-ne479.false) (c.fill.ensures.room_after)
