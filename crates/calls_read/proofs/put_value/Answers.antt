-- `filling::put_value` meets its contract: behind the value stand the zeros that were there, and a length before it makes the object. Assumes nothing.
use mathlib.Core.Path.{◌≡◌, ap, ◌∙◌}
use mathlib.Core.List.{◌++◌}
use Prim.Native.Nat.{◌-◌}
use native.Mathlib.Omega.{arith}
use lib.ListN.{length, replicate, length-append, length-replicate}
use Rattle.ground.proofs.Puts.{put_there, put_then, put_stored}
use Rattle.ground.proofs.Stores.{sets_blank}
use Rattle.card.specs.Content.{object_of}
use Rattle.calls_read.proofs.put_value.Goals as goal

pub returns : goal.returns
unfolding object_of
returns c =
    let v = c.args.value.now in
    let is = put_stored _ 0 v (omega arith) c.put.ensures.room_after ∙ sets_blank 28 0 v (omega arith) in
    let long : length (v ++ replicate (28 - length v) 0) ≡ 28 = simp (length-append, length-replicate) (omega arith) in
    let n = ap length is ∙ long in
    let one = put_there c.put_byte-start.ensures.value c.put_byte-start.ensures.room_after (omega arith) in
    let two = put_there c.put-2.ensures.value c.put-2.ensures.room_after (omega (arith, one.place, n)) in
    record { put = rw is at (put_then one two); value = omega (arith, one.place, two.place, n) }
