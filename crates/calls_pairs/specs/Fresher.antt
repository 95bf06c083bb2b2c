-- The fresher of two cards under a table.
use Rattle.std.specs.Prelude.{ℕ, List, eqb, length}
use Rattle.card.specs.declared.Refusal.{Refusal}
use Rattle.card.specs.Refusals.{refuse, gate}
use Rattle.fresher.specs.declared.Fresher.{Fresher}
use Rattle.fresher.specs.Comparing.{unweighed, fresher_of}
use Rattle.fresher.specs.Bytes.{fresher_bytes}
use Rattle.wire_tables.specs.Tables.{edition_from}

-- a table of another size is 2, and before it comes 1 for the first image
unfoldable pub table_fresher : List ℕ → List ℕ → List ℕ → Fresher
table_fresher table s t =
    gate (eqb (length table) 103) (unweighed (gate (eqb (length s) 256) (refuse 1 0 0) (refuse 2 0 0)))
    (fresher_of (edition_from table) s t)

-- a room of another size is told before all else
unfoldable pub kvk_fresher : List ℕ → List ℕ → List ℕ → List ℕ → Refusal
kvk_fresher table s t room = gate (eqb (length room) 8) (refuse 20 0 0) (table_fresher table s t).refusal

-- and is left as it is
unfoldable pub kvk_fresher_room : List ℕ → List ℕ → List ℕ → List ℕ → List ℕ
kvk_fresher_room table s t room = gate (eqb (length room) 8) room (fresher_bytes (table_fresher table s t))
