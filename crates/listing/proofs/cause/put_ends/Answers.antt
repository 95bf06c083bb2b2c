-- `listing::cause::put_ends` meets its contract: three runs in a row are one, and a number has three digits at most. Assumes nothing.
use native.Mathlib.Omega.{arith}
use Rattle.listing.specs.Listing.{ends}
use Rattle.ground.proofs.Words.{decimal_short}
use Rattle.ground.proofs.Puts.{put_there, put_then}
use Rattle.listing.proofs.cause.put_ends.Goals as goal

pub put_number-behind_longest-requires : goal.put_number-behind_longest-requires
put_number-behind_longest-requires c =
    omega (arith, c.put_number-behind_shortest.ensures.place, decimal_short c.args.refusal.shortest)

pub returns : goal.returns
unfolding ends
returns c =
    let x = c.args.refusal in
    let one = c.put_number-behind_shortest.ensures in
    let two = c.put_number-behind_longest.ensures in
    let three = put_there c.put_byte.ensures.value c.put_byte.ensures.room_after (omega (arith, one.place, two.place, decimal_short x.shortest, decimal_short x.longest)) in
    put_then one (put_then two three)
