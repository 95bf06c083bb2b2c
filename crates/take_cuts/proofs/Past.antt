-- Past the end of a list nothing is passed any more. Assumes nothing.
use Prim.Native.Nat.{ℕ, ◌+◌, ◌≤◌}
use native.Mathlib.Omega.{arith}
use mathlib.Core.Path.{◌≡◌}
use mathlib.Core.Bool.{Bool}
use mathlib.Core.List.{List}
use lib.ListN.{length, drop, drop_of_length-le}
use Rattle.ground.specs.Lists.{leading}

pub leading_past : (f : ℕ → Bool) (xs : List ℕ) (i : ℕ) → length xs ≤ i → i + leading f (drop i xs) ≡ i
unfolding leading
leading_past f xs i h = rw (drop_of_length-le xs h) (omega arith)
