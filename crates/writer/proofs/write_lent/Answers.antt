-- `writer::write_lent` meets its contract: a record is written unless the check refuses it. Assumes nothing.
use Rattle.writer.proofs.Accepted.{lent_room, lent_left, lent_rows}
use Rattle.writer.proofs.write_lent.Goals as goal

pub write_unless-requires : goal.write_unless-requires
write_unless-requires c =
    let a = c.args in
    lent_room _ a.bytes.now a.buffer.now _ c.check_lent-refusal.ensures (lent_rows _)

pub returns : goal.returns
returns c =
    let a = c.args in
    record { value = c.check_lent-refusal.ensures; buffer_after = lent_left _ a.bytes.now a.buffer.now _ c.check_lent-refusal.ensures c.write_unless.ensures }
