-- `vocabulary::put_part` meets its contract: the part has its room. Assumes nothing.
use native.Mathlib.Omega.{arith}
use Rattle.ground.proofs.Puts.{put_there}
use lib.ListN.{length-take, length-drop}
use Rattle.put_table.proofs.vocabulary.put_part.Goals as goal

pub returns : goal.returns
returns c =
    put_there c.put.ensures.value c.put.ensures.room_after (simp (length-take, length-drop) (omega arith))
