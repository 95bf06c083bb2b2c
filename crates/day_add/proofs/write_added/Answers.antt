-- `day_add::write_added` meets its contract: three runs of stores, each behind the one before, are one. Assumes nothing.
use mathlib.Core.Path.{◌≡◌, sym, ◌∙◌}
use mathlib.Core.List.{◌++◌}
use Prim.Native.Nat.{◌+◌, ◌*◌}
use native.Mathlib.Omega.{arith}
use lib.ListN.{length, take, length-append}
use lib.Seq.{length-take-le}
use Rattle.ground.proofs.Stores.{sets_then}
use Rattle.ground.proofs.Puts.{put_stored}
use Rattle.day.specs.Files.{trailer}
use Rattle.day.proofs.Frames.{closed_right}
use Rattle.day_add.proofs.write_added.Goals as goal

pub slice_bounds-put-end : goal.slice_bounds-put-end
slice_bounds-put-end c =
    let a = c.args in
    sym (length-take-le (a.count * 256) a.file.now (omega arith))

pub returns : goal.returns
returns c =
    let a = c.args in
    let front = take (a.count * 256) a.file.now in
    let n : length front ≡ a.count * 256 = length-take-le (a.count * 256) a.file.now (omega arith) in
    let one = put_stored a.room.now 0 front (omega arith) c.put.ensures.room_after in
    let two = put_stored c.put.new.room (a.count * 256) a.card.now (omega (arith, c.put.auto.room)) c.put-2.ensures.room_after in
    let e = two ∙ sets_then a.room.now front 0 a.card.now one (omega arith) in
    c.close.ensures
    ∙ closed_right (a.count + 1) a.index.now c.put-2.new.room (omega arith) (omega arith) (omega (arith, c.put.auto.room, c.put-2.auto.room))
    ∙ sets_then a.room.now (front ++ a.card.now) 0 (a.index.now ++ trailer (a.count + 1) a.index.now) e (omega (arith, length-append front a.card.now))
