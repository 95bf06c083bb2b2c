-- The places of an image's objects under a table.
use Rattle.std.specs.Prelude.{List, ℕ, eqb, length}
use Rattle.card.specs.declared.Refusal.{Refusal}
use Rattle.card.specs.declared.Places.{Places}
use Rattle.card.specs.Refusals.{refuse, gate}
use Rattle.card.specs.Places.{no_places, places}
use Rattle.wire_tables.specs.Tables.{edition_from}
use Rattle.wire.specs.PlaceBytes.{places_bytes}

-- 1 for the image's size, 2 for the table's
unfoldable pub table_places : List ℕ → List ℕ → Places
table_places table image =
    gate (eqb (length image) 256) (no_places (refuse 1 0 0))
    (gate (eqb (length table) 103) (no_places (refuse 2 0 0))
    (places (edition_from table) image))

-- a room of another size is told before all else
unfoldable pub kvk_places : List ℕ → List ℕ → List ℕ → Refusal
kvk_places table image room = gate (eqb (length room) 32) (refuse 20 0 0) (table_places table image).refusal

-- start and length of each object, zeros with a refusal; a room of another size is left as it is
unfoldable pub kvk_places_room : List ℕ → List ℕ → List ℕ → List ℕ
kvk_places_room table image room = gate (eqb (length room) 32) room (places_bytes (table_places table image))
