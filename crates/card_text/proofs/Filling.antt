-- A list of bytes with 0 behind it: how many there are does not matter, if they are enough. Assumes nothing.
use Prim.Native.Nat.{ℕ, zero, suc, ◌+◌, ◌≤◌}
use native.Mathlib.Omega.{arith}
use mathlib.Core.Path.{◌≡◌, refl, sym, ap, ◌∙◌}
use mathlib.Core.List.{List, [], ◌∷◌, ◌++◌}
use lib.ListN.{length, take, replicate}

filled_none : (k m : ℕ) → k ≤ m → take {A = ℕ} k (replicate m 0) ≡ replicate k 0
filled_none zero m h = refl
filled_none (suc k) zero h = absurd (omega arith)
filled_none (suc k) (suc m) h = ap (λ (l : List ℕ). 0 ∷ l) (filled_none k m (omega arith))

pub filled : (k m j : ℕ) (v : List ℕ) → k ≤ length v + m → k ≤ length v + j → take k (v ++ replicate m 0) ≡ take k (v ++ replicate j 0)
filled zero m j v h g = refl
filled (suc k) m j [] h g = filled_none (suc k) m (omega arith) ∙ sym (filled_none (suc k) j (omega arith))
filled (suc k) m j (x ∷ v) h g = ap (λ (l : List ℕ). x ∷ l) (filled k m j v (omega arith) (omega arith))
