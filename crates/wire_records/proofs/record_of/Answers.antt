-- `records::record_of` meets its contract: twelve bytes fill the free bytes, and the rest is by the objects. Assumes nothing.
use mathlib.Core.Path.{◌≡◌}
use native.Mathlib.Omega.{arith}
use borrow.Author.Tests.{ne_eqb}
use lib.ListN.{length, take, drop, length-drop}
use lib.Seq.{length-take-le}
use Rattle.ground.proofs.Puts.{put_whole}
use Rattle.ground.proofs.Pieces.{to_end}
use Rattle.wire_records.specs.Records.{record_from, lent_record}
use Rattle.wire_records.proofs.record_of.Goals as goal

pub returns-then-bytes-ne479 : goal.returns-then-bytes-ne479
unfolding lent_record
returns-then-bytes-ne479 c = rw (ne_eqb _ 479 c.if-bytes-ne479.true) c.empty.ensures

pub returns : goal.returns
unfolding lent_record record_from
returns c =
    let size = c.if-bytes-ne479.false in
    let bytes = c.args.bytes.now in
    let twelve : length (take 12 (drop 1 bytes)) ≡ 12 = length-take-le 12 (drop 1 bytes) (omega (arith, length-drop 1 bytes)) in
    rw (size, c.objects_of.ensures, to_end, put_whole _ (take 12 (drop 1 bytes)) twelve c.put.ensures.room_after)
