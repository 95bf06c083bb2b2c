-- `records::object_of` meets its contract: 28 bytes fill a value of 28. Assumes nothing.
use mathlib.Core.Path.{ap}
use mathlib.Core.List.{List}
use Prim.Native.Nat.{ℕ}
use native.Mathlib.Omega.{arith}
use lib.ListN.{get_or, length-drop}
use Rattle.ground.proofs.Puts.{put_whole}
use Rattle.ground.proofs.Pieces.{to_end}
use Rattle.wire_records.proofs.object_of.Goals as goal

pub returns : goal.returns
returns c =
    let part = c.args.part.now in
    let value = put_whole _ _ (omega (arith, length-drop 1 part)) (rw to_end at c.put.ensures.room_after) in
    ap (λ (bytes : List ℕ). record { length = get_or part 0 0; bytes = bytes }) value
