-- `seal` meets its contract: the index is stored behind the images and the trailer behind the index: two stores side by side are one. Assumes nothing.
use mathlib.Core.Path.{◌≡◌, ap, ◌∙◌}
use mathlib.Core.List.{List, ◌++◌}
use Prim.Native.Nat.{ℕ, ◌*◌}
use lib.Seq.{sets}
use native.Mathlib.Omega.{arith}
use Rattle.ground.proofs.Puts.{put_stored}
use Rattle.ground.proofs.Stores.{sets_then}
use Rattle.day_trailer.proofs.seal.Goals as goal

pub returns : goal.returns
returns c =
    let a = c.args in
    let first : c.put.new.room ≡ sets a.room.now (a.count * 256) a.index.now = put_stored _ _ _ (omega arith) c.put.ensures.room_after in
    put_stored _ _ _ (omega arith) c.put-2.ensures.room_after
    ∙ sets_then a.room.now a.index.now (a.count * 256) c.trailer_of-trailer.result first (omega arith)
    ∙ ap (λ (x : List ℕ). sets a.room.now (a.count * 256) (a.index.now ++ x)) c.trailer_of-trailer.ensures
