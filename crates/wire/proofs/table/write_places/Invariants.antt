-- `table::write_places` meets its contract. The invariant: what is left to put, from place k on, makes the table. Assumes nothing.
use mathlib.Core.Path.{◌≡◌}
use Prim.Native.Nat.{◌*◌}
use lib.ListN.{length, drop}
use Rattle.ground.proofs.Puts.{Left}
use Rattle.wire.specs.PlaceBytes.{paired, places_bytes}
use Rattle.wire.proofs.table.write_places.Given as goal

abbrev pub invariant-loop-k : goal.invariant-loop-k
invariant-loop-k l =
    (length l.room ≡ length l.initial.room) × (l.place ≡ l.k * 2) × Left l.initial.room 0 (places_bytes l.table) l.room l.place (paired (drop l.k l.table.starts) (drop l.k l.table.lengths))
