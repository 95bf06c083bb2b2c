-- The rows one after the other. Assumes nothing.
use Prim.Native.Nat.{ℕ, ◌+◌}
use native.Mathlib.Numerals.{add-one}
use native.Mathlib.Omega.{arith}
use mathlib.Core.Path.{◌≡◌, refl}
use mathlib.Core.Bool.{true, false}
use mathlib.Core.List.{List, [], ◌∷◌}
use lib.Dec.{eqb}
use lib.ListN.{length}
use Rattle.edition.specs.declared.Row.{Row}
use Rattle.nesting.specs.Decision.{clause_of, told, nesting_from}

-- r is the first clause that fails of the next row, which has the number k
module _ (i o : Row) (is os : List Row) (k r : ℕ) where
  pub rows_pass : r ≡ clause_of i o → eqb r 0 ≡ true → nesting_from (k + 1) is os ≡ nesting_from k (i ∷ is) (o ∷ os)
  unfolding nesting_from
  rows_pass e z = rw (add-one, ← e, z)

  pub rows_stop : r ≡ clause_of i o → eqb r 0 ≡ false → told r k ≡ nesting_from k (i ∷ is) (o ∷ os)
  unfolding nesting_from
  rows_stop e z = rw (← e, z)

pub rows_end : (is os : List Row) (k : ℕ) → length is ≡ 0 → length os ≡ 0 → told 0 17 ≡ nesting_from k is os
unfolding nesting_from
rows_end [] [] k n m = refl
rows_end (i ∷ is) os k n m = absurd (omega arith)
rows_end [] (o ∷ os) k n m = absurd (omega arith)
