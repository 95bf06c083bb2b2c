-- How long a number in decimal is. Assumes nothing.
use mathlib.Core.Bool.{Bool, true, false, cond}
use mathlib.Core.List.{[], ◌∷◌}
use Prim.Native.Nat.{ℕ, ◌≤◌}
use native.Mathlib.Omega.{arith}
use lib.Dec.{ltb}
use lib.ListN.{length}
use Rattle.ground.specs.Rooms.{decimal}

pub decimal_short : (n : ℕ) → length (decimal n) ≤ 3
unfolding decimal
decimal_short n = go (ltb n 10) (ltb n 100) _ _ _ _ _ _
  where
    go : (q r : Bool) (a b d e f g : ℕ) → length (cond q (a ∷ []) (cond r (b ∷ d ∷ []) (e ∷ f ∷ g ∷ []))) ≤ 3
    go true r a b d e f g = omega arith
    go false true a b d e f g = omega arith
    go false false a b d e f g = omega arith
