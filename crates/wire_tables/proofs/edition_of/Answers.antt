-- `rows::edition_of` meets its contract: 103 bytes are decoded row by row, and the last is the number; of another size comes the edition without a good row. Assumes nothing.
use borrow.Author.Tests.{ne_eqb}
use Rattle.wire_tables.specs.Tables.{edition_from, lent_edition}
use Rattle.wire_tables.proofs.edition_of.Goals as goal

pub returns-then-table-ne103 : goal.returns-then-table-ne103
unfolding lent_edition
returns-then-table-ne103 c = rw (ne_eqb _ 103 c.if-table-ne103.true)

pub returns : goal.returns
unfolding lent_edition edition_from
returns c = rw (c.if-table-ne103.false, c.rows_of.ensures)
