-- The calls on cards: what each answers, and what it leaves in the room that it is lent.
use Rattle.std.specs.Prelude.{ℕ, cond, ◌||◌, List, eqb, length, set}
use Rattle.edition.specs.Tables.{terminal, issue}
use Rattle.card.specs.declared.Refusal.{Refusal}
use Rattle.card.specs.Content.{content_of, object_of, empty_record}
use Rattle.card.specs.Refusals.{refuse, none, gate}
use Rattle.card.specs.Layout.{layout}
use Rattle.card.specs.declared.Reading.{Reading}
use Rattle.card.specs.Reading.{reading}
use Rattle.card.specs.Writing.{record_refusal, renumber_refusal}
use Rattle.wire_tables.specs.Tables.{edition_from, table_bytes}
use Rattle.wire_records.specs.Records.{record_from, object_bytes, record_bytes}

-- the bytes of a value's object in a record
abbrev pub value_bytes : List ℕ → List ℕ
value_bytes v = object_bytes (object_of v)

-- ---- reading an image under a table
unfoldable pub table_reading : List ℕ → List ℕ → Reading
table_reading table image =
    gate (eqb (length image) 256) (record { refusal = refuse 1 0 0; content = empty_record })
    (gate (eqb (length table) 103) (record { refusal = refuse 2 0 0; content = empty_record })
    (reading (edition_from table) image))

-- a room of another size is told before all else
unfoldable pub kvk_read : List ℕ → List ℕ → List ℕ → Refusal
kvk_read table image room = gate (eqb (length room) 479) (refuse 20 0 0) (table_reading table image).refusal

-- the record that was read, which is the empty one where the image is refused; a room of another size is left as it is
unfoldable pub kvk_read_room : List ℕ → List ℕ → List ℕ → List ℕ
kvk_read_room table image room = gate (eqb (length room) 479) room (record_bytes (table_reading table image).content)

-- ---- writing a record under a table: 20 for the record's size and the image's, then 2
unfoldable pub kvk_write : List ℕ → List ℕ → List ℕ → Refusal
kvk_write table bytes image =
    gate (eqb (length bytes) 479) (refuse 20 0 0)
    (gate (eqb (length image) 256) (refuse 20 0 0)
    (gate (eqb (length table) 103) (refuse 2 0 0)
    (record_refusal (edition_from table) (record_from bytes) image)))

-- a refusal leaves the image as it is
unfoldable pub kvk_write_image : List ℕ → List ℕ → List ℕ → List ℕ
kvk_write_image table bytes image = cond (eqb (kvk_write table bytes image).number 0) (layout (content_of (record_from bytes))) image

-- ---- putting an edition's number on a record: 20 for the record's size, then 2
unfoldable pub kvk_renumber : List ℕ → List ℕ → Refusal
kvk_renumber table bytes =
    gate (eqb (length bytes) 479) (refuse 20 0 0)
    (gate (eqb (length table) 103) (refuse 2 0 0)
    (renumber_refusal (edition_from table) (record_from bytes)))

-- the number is the record's last byte, and all that changes; a refusal leaves the record as it is
unfoldable pub kvk_renumber_bytes : List ℕ → List ℕ → List ℕ
kvk_renumber_bytes table bytes = cond (eqb (kvk_renumber table bytes).number 0) (set bytes 478 (edition_from table).number) bytes

-- ---- the table of a shipped edition: 1 terminal, 2 issue
unfoldable pub kvk_edition : ℕ → List ℕ → Refusal
kvk_edition which room =
    gate (eqb (length room) 103) (refuse 20 0 0)
    (gate (eqb which 1 || eqb which 2) (refuse 2 0 0)
    none)

-- a refusal leaves the room as it is
unfoldable pub kvk_edition_room : ℕ → List ℕ → List ℕ
kvk_edition_room which room = cond (eqb (kvk_edition which room).number 0) (table_bytes (cond (eqb which 1) terminal issue)) room
