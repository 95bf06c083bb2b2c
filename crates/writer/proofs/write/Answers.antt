-- `writer::write` meets its contract: the bytes are those of the record, which is written unless the check refuses it. Assumes nothing.
use mathlib.Core.Path.{◌≡◌}
use Prim.Native.Nat.{ℕ}
use native.Mathlib.Omega.{arith}
use lib.ListN.{length, length-replicate}
use Rattle.wire_records.specs.Records.{lent_record}
use Rattle.writer.proofs.Accepted.{has_room, left}
use Rattle.writer.proofs.write.Goals as goal

pub write_unless-requires : goal.write_unless-requires
write_unless-requires c =
    let seventeen : length c.args.edition.rows ≡ 17 = omega arith in
    let long : length c.write_record.new.room ≡ 479 =
    omega (arith, c.write_record.auto.room, length-replicate {A = ℕ} 479 0) in
    let lent : lent_record c.write_record.new.room ≡ c.args.content =
    c.write_record.ensures.room_after_2 (length-replicate {A = ℕ} 479 0) in
    has_room _ c.args.content _ c.args.buffer.now _ c.check-refusal.ensures (lent) (long) (seventeen)

pub returns : goal.returns
returns c =
    let lent : lent_record c.write_record.new.room ≡ c.args.content =
    c.write_record.ensures.room_after_2 (length-replicate {A = ℕ} 479 0) in
    let a = c.args in
    record { value = c.check-refusal.ensures; buffer_after = left _ a.content _ a.buffer.now _ c.check-refusal.ensures (lent) c.write_unless.ensures }
