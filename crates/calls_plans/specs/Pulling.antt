-- Rewriting a card under a table: what the calls answer, and what the plan leaves in the room that it is lent.
use Rattle.std.specs.Prelude.{ℕ, cond, List, eqb, length}
use Rattle.card.specs.declared.Refusal.{Refusal}
use Rattle.card.specs.Refusals.{refuse, gate, or_else}
use Rattle.wire_tables.specs.Tables.{edition_from}
use Rattle.wire.specs.Answers.{packed, valued}
use Rattle.rewriting.specs.Checking.{sizes_refusal, checked}
use Rattle.planning.specs.Planning.{planned, room_after}

-- a table of another size is told where 2 is told, behind the sizes of the images
unfoldable pub no_table : ℕ → ℕ → Refusal
no_table old new = or_else (sizes_refusal old new) (refuse 2 0 0)

-- ---- the plan: a room of another size is told before all else
unfoldable pub kvk_plan : List ℕ → List ℕ → List ℕ → List ℕ → ℕ
kvk_plan table old new room =
    gate (eqb (length room) 257) (packed (refuse 20 0 0))
    (gate (eqb (length table) 103) (packed (no_table (length old) (length new)))
    (valued (planned (edition_from table) old new room).refusal (planned (edition_from table) old new room).count))

-- what lies behind the steps stays, and with a refusal everything
unfoldable pub kvk_plan_room : List ℕ → List ℕ → List ℕ → List ℕ → List ℕ
kvk_plan_room table old new room = gate (eqb (length room) 257) room (gate (eqb (length table) 103) room (room_after (edition_from table) old new room))

-- ---- the check: 1 yes, 0 no
unfoldable pub kvk_check_plan : List ℕ → List ℕ → List ℕ → List ℕ → ℕ
kvk_check_plan table old new steps =
    gate (eqb (length table) 103) (packed (no_table (length old) (length new)))
    (valued (checked (edition_from table) old new steps).refusal (cond (checked (edition_from table) old new steps).safe 1 0))
