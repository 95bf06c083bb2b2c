-- `host::put_answer` meets its contract: two runs in a row are one. Assumes nothing.
use native.Mathlib.Omega.{arith}
use Rattle.ground.proofs.Puts.{put_there, put_then}
use Rattle.host.proofs.put_answer.Goals as goal

pub returns : goal.returns
returns c =
    let one = put_there c.put-behind.ensures.value c.put-behind.ensures.room_after (omega arith) in
    put_then one (put_there c.put.ensures.value c.put.ensures.room_after (omega (arith, one.place)))
