-- `places` meets its contract: a room of another size is left, and else holds the places. Assumes nothing.
use mathlib.Core.Path.{refl, ap, ◌∙◌}
use borrow.Author.Tests.{eq-eqb, ne_eqb}
use Rattle.card.specs.declared.Places.{Places}
use Rattle.card.specs.Refusals.{gate}
use Rattle.wire.specs.Answers.{packed}
use Rattle.wire.specs.PlaceBytes.{places_bytes}
use Rattle.wire.proofs.Pairs.{places_room_lem}
use Rattle.calls_cards.specs.PlaceCalls.{kvk_places, kvk_places_room}
use Rattle.calls_places.proofs.places.Goals as goal

pub returns-then-room-ne32-clause-value : goal.returns-then-room-ne32-clause-value
unfolding gate kvk_places kvk_places_room
returns-then-room-ne32-clause-value c =
    rw (ne_eqb _ 32 c.if-room-ne32.true) (c.pack.ensures ∙ ap packed c.new.ensures)

pub returns-then-room-ne32-clause-room_after : goal.returns-then-room-ne32-clause-room_after
unfolding gate kvk_places kvk_places_room
returns-then-room-ne32-clause-room_after c =
    rw (ne_eqb _ 32 c.if-room-ne32.true) (refl)

pub returns-clause-value : goal.returns-clause-value
unfolding gate kvk_places kvk_places_room
returns-clause-value c =
    rw (eq-eqb _ _ c.if-room-ne32.false) (c.pack-2.ensures ∙ ap (λ (x : Places). packed x.refusal) c.places_of-places.ensures)

pub returns-clause-room_after : goal.returns-clause-room_after
unfolding gate kvk_places kvk_places_room
returns-clause-room_after c =
    let size = c.if-room-ne32.false in
    rw (eq-eqb _ _ size) (c.write_places.ensures ∙ places_room_lem _ _ size ∙ ap places_bytes c.places_of-places.ensures)
