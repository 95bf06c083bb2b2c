-- `reader::read_at` meets its contract, by whether the table has a refusal. Assumes nothing.
use borrow.Author.Tests.{ne_eqb}
use Rattle.reader.specs.Records.{read_at}
use Rattle.reader.proofs.read_at.Goals as goal

pub returns-then-refusal-ne0 : goal.returns-then-refusal-ne0
unfolding read_at
returns-then-refusal-ne0 c = rw (ne_eqb _ _ c.if-refusal-ne0.true, c.empty.ensures)

pub copy_record-requires : goal.copy_record-requires
copy_record-requires c = c.requires c.if-refusal-ne0.false

pub returns : goal.returns
unfolding read_at
returns c = rw (c.if-refusal-ne0.false, c.none.ensures, c.copy_record.ensures)
