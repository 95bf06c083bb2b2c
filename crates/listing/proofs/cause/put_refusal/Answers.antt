-- `listing::cause::put_refusal` meets its contract: three runs in a row are one, and the last two have 20 bytes at most. Assumes nothing.
use native.Mathlib.Omega.{arith}
use Rattle.listing.specs.Listing.{refused_word, refused_line}
use Rattle.ground.specs.Rooms.{Put}
use Rattle.listing.proofs.Words.{cause_short, ends_short}
use Rattle.ground.proofs.Puts.{put_there, put_then}
use Rattle.listing.proofs.cause.put_refusal.Goals as goal

pub put_cause-behind_cause-requires : goal.put_cause-behind_cause-requires
put_cause-behind_cause-requires c =
    let put : Put _ c.args.at refused_word _ _ = put_there c.put-behind_word.ensures.value c.put-behind_word.ensures.room_after (omega arith) in
    omega (arith, put.place)

pub put_ends-requires : goal.put_ends-requires
put_ends-requires c =
    let put : Put _ c.args.at refused_word _ _ = put_there c.put-behind_word.ensures.value c.put-behind_word.ensures.room_after (omega arith) in
    omega (arith, put.place, c.put_cause-behind_cause.ensures.place, cause_short c.args.refusal)

pub returns : goal.returns
unfolding refused_line
returns c =
    let x = c.args.refusal in
    let put : Put _ c.args.at refused_word _ _ = put_there c.put-behind_word.ensures.value c.put-behind_word.ensures.room_after (omega arith) in
    let all = put_then put (put_then c.put_cause-behind_cause.ensures c.put_ends.ensures) in
    record { put = all; upper_bound = omega (arith, put.place, c.put_cause-behind_cause.ensures.place, c.put_ends.ensures.place, cause_short x, ends_short x) }
