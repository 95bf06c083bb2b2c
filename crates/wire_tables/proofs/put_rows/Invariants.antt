-- `rows::put_rows` meets its contract. The invariant: what is left to put, from row k on, makes the rows. Assumes nothing.
use mathlib.Core.Path.{◌≡◌}
use Prim.Native.Nat.{◌-◌, ◌*◌, ◌≤◌}
use lib.ListN.{length, drop}
use Rattle.ground.specs.Pieces.{joined}
use Rattle.ground.proofs.Puts.{Left}
use Rattle.wire_tables.specs.Tables.{row_bytes}
use Rattle.wire_tables.proofs.put_rows.Given as goal

abbrev pub invariant-loop-row : goal.invariant-loop-row
invariant-loop-row l =
    (l.place ≡ l.row-index * 6) × Left l.initial.room 0 (joined row_bytes l.fn.edition.rows) l.room l.place (joined row_bytes (drop l.row-index l.fn.edition.rows))
