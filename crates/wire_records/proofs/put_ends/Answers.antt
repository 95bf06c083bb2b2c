-- `records::put_ends` meets its contract: three runs, each behind the last. Assumes nothing.
use mathlib.Core.Path.{◌≡◌}
use native.Mathlib.Omega.{arith}
use lib.ListN.{length}
use Rattle.ground.proofs.Puts.{put_there, put_then}
use borrow.Author.Rules.{rules}
use Rattle.wire_records.proofs.put_ends.Goals as goal

pub returns : goal.returns
returns c =
    let twelve : length c.args.content.free ≡ 12 =
    search rules in
    let a = c.args.content in
    let one = put_there c.put_byte-behind_first.ensures.value c.put_byte-behind_first.ensures.room_after (omega arith) in
    let two = put_there c.put-behind_free.ensures.value c.put-behind_free.ensures.room_after (omega (arith, one.place, twelve)) in
    let three = put_there c.put_byte.ensures.value c.put_byte.ensures.room_after (omega (arith, one.place, two.place, twelve)) in
    record { put = put_then one (put_then two three); value = omega (arith, one.place, two.place, three.place, twelve) }
