-- The printed front of a record: what the call answers, and what it leaves in the room that it is lent.
use Rattle.std.specs.Prelude.{ℕ, Bool, cond, List, eqb, length}
use Rattle.card.specs.declared.Refusal.{Refusal}
use Rattle.card.specs.Content.{content_of}
use Rattle.card.specs.Refusals.{refuse, gate}
use Rattle.wire_records.specs.Records.{record_from}
use Rattle.front.specs.Lines.{lines_of, end_to_end}
use Rattle.front.specs.Refusing.{print_refusal}

-- 20 for the record's size, then as the front tells it
unfoldable pub kvk_front : List ℕ → Bool → List ℕ → Refusal
kvk_front bytes fund room = gate (eqb (length bytes) 479) (refuse 20 0 0) (print_refusal fund (content_of (record_from bytes)) (length room))

-- a refusal leaves the room as it is
unfoldable pub kvk_front_room : List ℕ → Bool → List ℕ → List ℕ
kvk_front_room bytes fund room = cond (eqb (kvk_front bytes fund room).number 0) (end_to_end (lines_of fund (content_of (record_from bytes)))) room
