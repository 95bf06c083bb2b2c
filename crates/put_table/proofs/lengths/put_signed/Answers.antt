-- `lengths::put_signed` meets its contract: two runs in a row are one, and a number has three digits at most. Assumes nothing.
use native.Mathlib.Omega.{arith}
use Rattle.ground.proofs.Puts.{put_there, put_then}
use Rattle.ground.proofs.Words.{decimal_short}
use Rattle.put_table.proofs.lengths.put_signed.Goals as goal

pub returns : goal.returns
returns c =
    let short = decimal_short c.args.n in
    let one = put_there c.put_byte-start.ensures.value c.put_byte-start.ensures.room_after (omega arith) in
    let two = put_there c.put_decimal.ensures.value c.put_decimal.ensures.room_after (omega (arith, one.place)) in
    record { put = put_then one two; upper_bound = omega (arith, one.place, two.place) }
