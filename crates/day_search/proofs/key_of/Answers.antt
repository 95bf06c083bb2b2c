-- `key_of` meets its contract: twelve blanks with the number put over their start, and two zeros for the position, are the number's entry at position 0. Assumes nothing.
use native.Mathlib.Omega.{arith}
use Rattle.ground.proofs.Puts.{put_stored}
use Rattle.day.proofs.Finding.{key_stored}
use Rattle.day_search.proofs.key_of.Goals as goal

pub returns : goal.returns
returns c =
    key_stored c.args.number.now c.put.new.room (omega arith) (put_stored _ _ _ (omega arith) c.put.ensures.room_after)
