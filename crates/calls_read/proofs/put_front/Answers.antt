-- `filling::put_front` meets its contract: four runs, each behind the last. Assumes nothing.
use mathlib.Core.Path.{◌≡◌}
use native.Mathlib.Omega.{arith}
use lib.ListN.{length, take, drop, length-drop}
use lib.Seq.{length-take-le}
use Rattle.ground.proofs.Puts.{put_there, put_then}
use Rattle.card.specs.Frame.{free_of}
use Rattle.calls_read.proofs.put_front.Goals as goal

pub returns : goal.returns
unfolding free_of
returns c =
    let s = c.args.image.now in
    let n : length (take 11 (drop 6 s)) ≡ 11 = length-take-le 11 (drop 6 s) (omega (arith, length-drop 6 s, c.requires)) in
    let one = put_there c.put_byte-behind_first.ensures.value c.put_byte-behind_first.ensures.room_after (omega (arith, c.requires)) in
    let two = put_there c.put-behind_chip.ensures.value c.put-behind_chip.ensures.room_after (omega (arith, c.requires, one.place, n)) in
    let three = put_there c.put_byte-behind_free.ensures.value c.put_byte-behind_free.ensures.room_after (omega (arith, c.requires, one.place, two.place, n)) in
    let four = put_there c.put_byte.ensures.value c.put_byte.ensures.room_after (omega (arith, c.requires, one.place, two.place, three.place, n)) in
    record { put = put_then one (put_then (put_then two three) four); value = omega (arith, one.place, two.place, three.place, four.place, n) }
