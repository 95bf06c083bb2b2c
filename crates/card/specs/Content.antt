-- What stands on a card: address 0, the free bytes, the last byte, and sixteen values, the empty list for an absent object.
use Rattle.std.specs.Prelude.{ℕ, ◌-◌, List, [], ◌++◌, map, length, take, replicate}
use Rattle.card.specs.declared.Object.{Object}
use Rattle.card.specs.declared.Record.{Record}

pub record Content : Type 0 where
  pub first : ℕ
  pub free : List ℕ
  pub last : ℕ
  pub values : List (List ℕ)

-- an object's first bytes up to its length; a record may claim a length past the 28 bytes that it has
unfoldable pub value_of : Object → List ℕ
value_of o = take o.length (o.bytes ++ replicate 227 0)

unfoldable pub content_of : Record → Content
content_of r = record { first = r.first; free = r.free; last = r.last; values = map value_of r.objects }

-- what lies behind a value is 0
unfoldable pub object_of : List ℕ → Object
object_of v = record { length = length v; bytes = v ++ replicate (28 - length v) 0 }

-- a record holds what stands on a card, and the number of an edition, which stands on no card
unfoldable pub record_of : ℕ → Content → Record
record_of number c = record { first = c.first; free = c.free; last = c.last; objects = map object_of c.values; number = number }

-- the record with this number put on, the same but for it
abbrev pub numbered : ℕ → Record → Record
numbered number r = record { first = r.first; free = r.free; last = r.last; objects = r.objects; number = number }

-- the empty record is all 0
unfoldable pub empty_record : Record
unfolding record_of object_of
empty_record = record_of 0 (record { first = 0; free = replicate 12 0; last = 0; values = replicate 16 [] })

-- what stands past the end of a list of objects
abbrev pub no_object : Object
no_object = record { length = 0; bytes = [] }
