-- The record that a text makes. Where no line says otherwise, address 0 is '92', the free bytes and the last byte are '00', and an object is absent.
use Rattle.std.specs.Prelude.{ℕ, zero, suc, cond, List, [], ◌∷◌, ◌++◌, is_some, length, take, replicate}
use Rattle.card.specs.declared.Object.{Object}
use Rattle.card.specs.declared.Record.{Record}
use Rattle.card_text.specs.Entries.{line_of, value_of}
use Rattle.card_text.specs.Hex.{byte_at}
use Rattle.card_text.specs.Faults.{coded}

-- f of 0, of 1, and on, n of them
unfoldable pub listed : {A : Type 0} → ℕ → (ℕ → A) → List A
listed zero f = []
listed (suc n) f = listed n f ++ (f n ∷ [])

-- the object of a value: how many bytes its letters make, and the first 28 of them, 0 behind their end
unfoldable pub object_said : List ℕ → Object
object_said value = record { length = length (coded value); bytes = take 28 (coded value ++ replicate 28 0) }

-- the byte that a line says in hex digits, or another where there is no such line
unfoldable pub byte_or : List ℕ → ℕ → ℕ → ℕ
byte_or text key other = cond (is_some (line_of key text)) (byte_at (value_of key text) 0) other

unfoldable pub free_said : List ℕ → List ℕ
free_said value = listed 12 (byte_at value)

-- the sixteen objects in card order
abbrev pub object_at : List ℕ → ℕ → Object
object_at text key = object_said (value_of key text)

unfoldable pub objects_said : List ℕ → List Object
objects_said text = listed 16 (object_at text)

unfoldable pub record_said : List ℕ → ℕ → Record
record_said text number = record {
  first = byte_or text 16 0x92;
  free = free_said (value_of 17 text);
  last = byte_or text 18 0x00;
  objects = objects_said text;
  number = number;
}
