-- A record of the right size, and what stands past its objects. Assumes nothing.
use Prim.Native.Nat.{ℕ}
use mathlib.Core.Path.{◌≡◌}
use mathlib.Core.List.{List, []}
use lib.ListN.{length}
use Rattle.card.specs.declared.Object.{Object}
use Rattle.card.specs.declared.Record.{Record}
use Rattle.wire_records.specs.Records.{record_from, lent_record, record_bytes, record_room}

pub lent_record_lem : (bs : List ℕ) → length bs ≡ 479 → lent_record bs ≡ record_from bs
unfolding lent_record
lent_record_lem bs n = rw n

pub record_room_lem : (r : Record) (room : List ℕ) → length room ≡ 479 → record_room r room ≡ record_bytes r
unfolding record_room
record_room_lem r room n = rw n

-- what stands past the end of a list of objects
abbrev pub nothing : Object
nothing = record { length = 0; bytes = [] }
