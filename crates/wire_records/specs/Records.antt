-- A record is 479 bytes: address 0, the twelve free bytes, the last byte, sixteen times a length and 28 bytes, and the number of the edition.
use Rattle.std.specs.Prelude.{ℕ, cond, List, [], ◌∷◌, ◌++◌, map, eqb, length, get_or, take, drop}
use Rattle.card.specs.declared.Object.{Object}
use Rattle.card.specs.declared.Record.{Record}
use Rattle.card.specs.Content.{empty_record}
use Rattle.ground.specs.Pieces.{pieces, joined}

abbrev pub object_from : List ℕ → Object
object_from bs = record { length = get_or bs 0 0; bytes = drop 1 bs }

unfoldable pub record_from : List ℕ → Record
record_from bs = record {
  first = get_or bs 0 0;
  free = take 12 (drop 1 bs);
  last = get_or bs 13 0;
  objects = map object_from (pieces 29 16 (drop 14 bs));
  number = get_or bs 478 0;
}

-- bytes of another size give the empty record
unfoldable pub lent_record : List ℕ → Record
lent_record bs = cond (eqb (length bs) 479) (record_from bs) empty_record

abbrev pub object_bytes : Object → List ℕ
object_bytes o = o.length ∷ o.bytes

unfoldable pub record_bytes : Record → List ℕ
record_bytes r = r.first ∷ (r.free ++ (r.last ∷ (joined object_bytes r.objects ++ (r.number ∷ []))))

-- a room of another size is left as it is
unfoldable pub record_room : Record → List ℕ → List ℕ
record_room r room = cond (eqb (length room) 479) (record_bytes r) room
