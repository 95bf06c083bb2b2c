-- `writer::write_unless` meets its contract: nothing is written of a refused record, and one that is not refused has its room. Assumes nothing.
use borrow.Author.Tests.{ne_eqb}
use Rattle.writer.proofs.write_unless.Goals as goal

pub returns-then-refusal-ne0 : goal.returns-then-refusal-ne0
returns-then-refusal-ne0 c = rw (ne_eqb _ _ c.if-refusal-ne0.true)

pub write_card-requires : goal.write_card-requires
write_card-requires c = c.requires c.if-refusal-ne0.false

pub returns : goal.returns
returns c =
    rw c.if-refusal-ne0.false c.write_card.ensures
