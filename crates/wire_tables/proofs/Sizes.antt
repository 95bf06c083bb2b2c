-- A table of the right size. Assumes nothing.
use Prim.Native.Nat.{ℕ}
use mathlib.Core.Path.{◌≡◌}
use mathlib.Core.List.{List}
use lib.ListN.{length}
use Rattle.edition.specs.declared.Edition.{Edition}
use Rattle.wire_tables.specs.Tables.{edition_from, lent_edition, table_bytes, table_room}

pub lent_edition_lem : (bs : List ℕ) → length bs ≡ 103 → lent_edition bs ≡ edition_from bs
unfolding lent_edition
lent_edition_lem bs n = rw n

pub table_room_lem : (e : Edition) (room : List ℕ) → length room ≡ 103 → table_room e room ≡ table_bytes e
unfolding table_room
table_room_lem e room n = rw n
