-- `records::put_object` meets its contract: a length and the bytes behind it are one run. Assumes nothing.
use mathlib.Core.Path.{◌≡◌}
use native.Mathlib.Omega.{arith}
use lib.ListN.{length}
use Rattle.ground.proofs.Puts.{put_there, put_then}
use borrow.Author.Rules.{rules}
use Rattle.wire_records.proofs.put_object.Goals as goal

pub returns : goal.returns
returns c =
    let held : length c.args.item.bytes ≡ 28 =
    search rules in
    let a = c.args in
    let one = put_there c.put_byte-start.ensures.value c.put_byte-start.ensures.room_after (omega arith) in
    let two = put_there c.put.ensures.value c.put.ensures.room_after (omega (arith, one.place, held)) in
    record { put = put_then one two; value = omega (arith, one.place, two.place, held) }
