-- The length field behind a tag: where it is read, it lies in the bytes and says a length. Assumes nothing.
use Prim.Native.Nat.{ℕ, zero, suc, ◌+◌, ◌*◌, ◌≤◌, ◌<◌}
use native.Mathlib.Omega.{arith}
use mathlib.Core.Path.{◌≡◌, refl}
use mathlib.Core.Bool.{Bool, true, false, cond}
use mathlib.Core.List.{List, [], ◌∷◌, ◌++◌}
use lib.Dec.{leb, eqb}
use lib.ListN.{length, take, drop}
use Rattle.std.specs.Prelude.{Result, Ok, Err}
use Rattle.lengths.specs.declared.Field.{Field}
use Rattle.lengths.specs.declared.FieldError.{FieldError}
use Rattle.lengths.specs.declared.FieldError.TheVariants as L
use Rattle.lengths.specs.Lengths.{read, behind81, behind82, length_read, length_told}
use Rattle.lengths.proofs.Laws.{number_some}
use Rattle.tree.specs.Trees.{Below}

-- ---- a field takes at least a byte, and lies in the bytes
abbrev Used : List ℕ → Result Field FieldError → Type 0
Used s (Ok f) = (0 < f.used) × (f.used ≤ length s)
Used s (Err e) = Unit {0}

used81 : (b : ℕ) (r : List ℕ) → Used (b ∷ r) (behind81 r)
used81 b [] = tt
used81 b (n ∷ r) = go (leb n 127)
  where
    go : (p : Bool) → Used (b ∷ n ∷ r) (cond p (Err L.Long) (read n 2))
    go true = tt
    go false = (omega arith, omega arith)

used82 : (b : ℕ) (r : List ℕ) → Used (b ∷ r) (behind82 r)
used82 b [] = tt
used82 b (x ∷ []) = tt
used82 b (x ∷ y ∷ r) = go (eqb x 0)
  where
    go : (p : Bool) → Used (b ∷ x ∷ y ∷ r) (cond p (Err L.Long) (read (x * 256 + y) 3))
    go true = tt
    go false = (omega arith, omega arith)

used : (s : List ℕ) → Used s (length_read s)
unfolding length_read
used [] = tt
used (b ∷ r) = go (leb b 127) (eqb b 0x81) (eqb b 0x82)
  where
    go : (p q t : Bool) → Used (b ∷ r) (cond p (read b 1) (cond q (behind81 r) (cond t (behind82 r) (Err L.Other))))
    go true q t = (omega arith, omega arith)
    go false true t = used81 b r
    go false false true = used82 b r
    go false false false = tt

pub field_in : (r : List ℕ) (n u : ℕ) → length_read r ≡ read n u → (0 < u) × (u ≤ length r)
field_in r n u e = rw e at (used r)

-- ---- what is told with the number 0 was read
pub told_read : (l : Result Field FieldError) → (length_told l).number ≡ 0 → l ≡ read (length_told l).length (length_told l).used
told_read (Ok f) e = refl
told_read (Err x) e = absurd (number_some x e)

pub read_told : (l : Result Field FieldError) (n u : ℕ) → l ≡ read n u → (length_told l).number ≡ 0
read_told l n u e = rw e

-- ---- parts of bytes are bytes
pub below_drop : (m n : ℕ) (s : List ℕ) → 0 < m → Below m s → Below m (drop n s)
below_drop m zero s h w = w
below_drop m (suc n) [] h w = w
below_drop m (suc n) (b ∷ r) h w = below_drop m n r h (λ i. w (suc i))

pub below_take : (m n : ℕ) (s : List ℕ) → 0 < m → Below m s → Below m (take n s)
below_take m zero s h w i = h
below_take m (suc n) [] h w i = h
below_take m (suc n) (b ∷ r) h w zero = w 0
below_take m (suc n) (b ∷ r) h w (suc i) = below_take m n r h (λ j. w (suc j)) i

pub below_both : (m : ℕ) (xs ys : List ℕ) → Below m xs → Below m ys → Below m (xs ++ ys)
below_both m [] ys v w i = w i
below_both m (x ∷ xs) ys v w zero = v 0
below_both m (x ∷ xs) ys v w (suc i) = below_both m xs ys (λ j. v (suc j)) w i
