-- `listing::cause::put_tag` meets its contract: two runs in a row are one. Assumes nothing.
use native.Mathlib.Omega.{arith}
use Rattle.ground.specs.Rooms.{hex}
use Rattle.ground.proofs.Puts.{put_there, put_then}
use Rattle.listing.proofs.cause.put_tag.Goals as goal

pub returns : goal.returns
unfolding hex
returns c =
    let one = put_there c.put_byte-start.ensures.value c.put_byte-start.ensures.room_after (omega arith) in
    put_then one (put_there c.put_hex.ensures.value c.put_hex.ensures.room_after (omega (arith, one.place)))
