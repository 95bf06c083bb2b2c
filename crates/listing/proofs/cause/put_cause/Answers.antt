-- `listing::cause::put_cause` meets its contract: three runs in a row. Assumes nothing.
use native.Mathlib.Omega.{arith}
use Rattle.listing.specs.Listing.{cause}
use Rattle.ground.proofs.Puts.{put_then}
use Rattle.ground.proofs.Words.{decimal_short}
use Rattle.listing.proofs.cause.put_cause.Goals as goal

pub put_number-behind_place-requires : goal.put_number-behind_place-requires
put_number-behind_place-requires c =
    omega (arith, c.put_number-behind_number.ensures.place, decimal_short c.args.refusal.number)

pub put_tag-requires : goal.put_tag-requires
put_tag-requires c =
    omega (arith, c.put_number-behind_number.ensures.place, c.put_number-behind_place.ensures.place, decimal_short c.args.refusal.number, decimal_short c.args.refusal.place)

pub returns : goal.returns
unfolding cause
returns c =
    put_then c.put_number-behind_number.ensures (put_then c.put_number-behind_place.ensures c.put_tag.ensures)
