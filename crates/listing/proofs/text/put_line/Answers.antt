-- `listing::text::put_line` meets its contract: two runs in a row are one. Assumes nothing.
use native.Mathlib.Omega.{arith}
use Rattle.ground.proofs.Puts.{put_there, put_then}
use Rattle.listing.proofs.text.put_line.Goals as goal

pub returns : goal.returns
returns c =
    let one = put_there c.put-end.ensures.value c.put-end.ensures.room_after (omega arith) in
    put_then one (put_there c.put_byte.ensures.value c.put_byte.ensures.room_after (omega (arith, one.place)))
