-- `rows::rows_of` meets its contract. The invariant: the rows passed are those of the pieces passed. Assumes nothing.
use mathlib.Core.Path.{◌≡◌}
use mathlib.Core.List.{map}
use Prim.Native.Nat.{◌-◌, ◌≤◌}
use lib.ListN.{length, take}
use Rattle.ground.specs.Pieces.{pieces}
use Rattle.wire_tables.specs.Tables.{row_from}
use Rattle.wire_tables.proofs.rows_of.Given as goal

abbrev pub invariant-loop-k : goal.invariant-loop-k
invariant-loop-k l = (length l.row-items ≡ 17) × (take l.k l.row-items ≡ map row_from (pieces 6 l.k l.table))
