-- `rows::put_rows` meets its contract. The invariant: what is left to put, from row k on, makes the lines of all rows. Assumes nothing.
use Prim.Native.Nat.{◌+◌, ◌*◌, ◌≤◌}
use lib.ListN.{drop}
use Rattle.ground.proofs.Puts.{Left}
use Rattle.table_text.specs.Texts.{rows_text}
use Rattle.put_table.proofs.rows.put_rows.Given as goal

abbrev pub invariant-loop-k : goal.invariant-loop-k
invariant-loop-k l =
    (l.place ≤ l.at + l.k * 183) × Left l.initial.room l.at (rows_text 0 l.row-items) l.room l.place (rows_text l.k (drop l.k l.row-items))
