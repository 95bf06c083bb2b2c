-- Two images side by side under a table: what the call answers, and what it leaves in the room that it is lent.
use Rattle.std.specs.Prelude.{ℕ, List, [], eqb, length}
use Rattle.card.specs.Refusals.{refuse, gate}
use Rattle.wire_tables.specs.Tables.{edition_from}
use Rattle.wire.specs.Answers.{packed, valued}
use Rattle.differences.specs.declared.Differences.{Differences}
use Rattle.differences.specs.Answers.{told, compared}

-- a table of another size is told where 2 is told of the first image
unfoldable pub table_compared : List ℕ → List ℕ → List ℕ → Differences
table_compared table first second =
    gate (eqb (length first) 256) (told (refuse 1 0 0) [])
    (gate (eqb (length table) 103) (told (refuse 2 0 0) [])
    (compared (edition_from table) first second))

-- a room of another size is told before all else, and is left as it is
unfoldable pub kvk_differences : List ℕ → List ℕ → List ℕ → List ℕ → ℕ
kvk_differences table first second room =
    gate (eqb (length room) 30) (packed (refuse 20 0 0))
    (valued (table_compared table first second).refusal (table_compared table first second).count)

unfoldable pub kvk_differences_room : List ℕ → List ℕ → List ℕ → List ℕ → List ℕ
kvk_differences_room table first second room = gate (eqb (length room) 30) room (table_compared table first second).entries
