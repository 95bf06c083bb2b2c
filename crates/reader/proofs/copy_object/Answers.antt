-- `reader::copy_object` meets its contract: behind the value stand the zeros that were there. Assumes nothing.
use mathlib.Core.Path.{ap, ◌∙◌}
use mathlib.Core.List.{List}
use Prim.Native.Nat.{ℕ}
use native.Mathlib.Omega.{arith}
use lib.ListN.{length}
use Rattle.ground.proofs.Puts.{put_stored}
use Rattle.ground.proofs.Stores.{sets_blank}
use Rattle.card.specs.Content.{object_of}
use Rattle.reader.proofs.copy_object.Goals as goal

pub returns : goal.returns
unfolding object_of
returns c =
    let a = c.args in
    let v = a.value.now in
    ap (λ (l : List ℕ). record { length = length v; bytes = l }) (put_stored _ 0 v (omega arith) c.put.ensures.room_after ∙ sets_blank 28 0 v (omega arith))
