-- `is_terminal` meets its contract: the byte string is the table that the edition is written as, by computation. Assumes nothing.
use Rattle.ground.specs.Pieces.{joined}
use Rattle.edition.specs.Tables.{table, terminal}
use Rattle.wire_tables.specs.Tables.{row_bytes, table_bytes}
use Rattle.shipped_tables.proofs.is_terminal.Goals as goal

pub returns : goal.returns
unfolding terminal table table_bytes joined row_bytes
returns c = c.is_same.ensures
