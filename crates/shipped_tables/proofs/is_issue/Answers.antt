-- `is_issue` meets its contract: the byte string is the table that the edition is written as, by computation. Assumes nothing.
use Rattle.ground.specs.Pieces.{joined}
use Rattle.edition.specs.Tables.{table, issue}
use Rattle.wire_tables.specs.Tables.{row_bytes, table_bytes}
use Rattle.shipped_tables.proofs.is_issue.Goals as goal

pub returns : goal.returns
unfolding issue table table_bytes joined row_bytes
returns c = c.is_same.ensures
