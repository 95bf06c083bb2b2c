-- `listing::cause::put_number` meets its contract: two runs in a row are one, and a number has three digits at most. Assumes nothing.
use native.Mathlib.Omega.{arith}
use Rattle.ground.proofs.Words.{decimal_short}
use Rattle.ground.proofs.Puts.{put_there, put_then}
use Rattle.listing.proofs.cause.put_number.Goals as goal

pub returns : goal.returns
returns c =
    let one = put_there c.put_byte-start.ensures.value c.put_byte-start.ensures.room_after (omega arith) in
    put_then one (put_there c.put_decimal.ensures.value c.put_decimal.ensures.room_after (omega (arith, one.place, decimal_short c.args.n)))
