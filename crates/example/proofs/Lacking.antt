-- The lengths that the inner has and the outer has not. Assumes nothing.
use Prim.Native.Nat.{ℕ, zero, suc, ◌/◌, ◌%◌, ◌^◌, ◌<◌}
use native.Mathlib.Omega.{arith}
use native.Mathlib.Nat.{mod-lt, zero-lt-suc}
use mathlib.Core.Path.{◌≡◌, refl, sym, ap, ◌∙◌}
use mathlib.Core.Bool.{Bool, true, false, ◌&&◌}
use lib.Dec.{eqb, ltb}
use lib.Bits.{bit_and, bit_xor, and_shr, xor_shr, and_mod, xor_mod}
use borrow.Author.Tests.{eqb-true, eqb-false}
use Rattle.ground.proofs.Lists.{true_false, and_left, and_right}
use Rattle.edition.specs.Sets.{permitted}
use Rattle.example.specs.Cards.{lacking}

-- a digit of the set is 1 where it is 1 of the inner and 0 of the outer
digit : (i o n : ℕ) → lacking i o / 2 ^ n % 2 ≡ bit_xor (i / 2 ^ n % 2) (bit_and (i / 2 ^ n % 2) (o / 2 ^ n % 2))
digit i o n =
    ap (λ (x : ℕ). x % 2) (xor_shr i (bit_and i o) n ∙ ap (bit_xor (i / 2 ^ n)) (and_shr i o n))
    ∙ xor_mod (i / 2 ^ n) (bit_and (i / 2 ^ n) (o / 2 ^ n)) 1
    ∙ ap (bit_xor (i / 2 ^ n % 2)) (and_mod (i / 2 ^ n) (o / 2 ^ n) 1)

one_zero : (a b : ℕ) → a < 2 → b < 2 → bit_xor a (bit_and a b) ≡ 1 → (a ≡ 1) × (b ≡ 0)
one_zero zero zero p q e = absurd (omega arith)
one_zero zero (suc zero) p q e = absurd (omega arith)
one_zero zero (suc (suc b)) p q e = absurd (omega arith)
one_zero (suc zero) zero p q e = (refl, refl)
one_zero (suc zero) (suc zero) p q e = absurd (omega arith)
one_zero (suc zero) (suc (suc b)) p q e = absurd (omega arith)
one_zero (suc (suc a)) b p q e = absurd (omega arith)

bit : (s n : ℕ) → s / 2 ^ n % 2 < 2
bit s n = mod-lt (s / 2 ^ n) (zero-lt-suc 1)

-- a length of the set is one of the inner's and none of the outer's
pub lacking_in : (i o n : ℕ) → permitted (lacking i o) n ≡ true → (permitted i n ≡ true) × (permitted o n ≡ false)
unfolding permitted
lacking_in i o n h =
    let some : ltb 0 n ≡ true = and_left (ltb 0 n) (eqb (lacking i o / 2 ^ n % 2) 1) h in
    let one : lacking i o / 2 ^ n % 2 ≡ 1 = eqb-true (lacking i o / 2 ^ n % 2) 1 (and_right (ltb 0 n) (eqb (lacking i o / 2 ^ n % 2) 1) h) in
    let d = one_zero (i / 2 ^ n % 2) (o / 2 ^ n % 2) (bit i n) (bit o n) (sym (digit i o n) ∙ one) in
    (rw (some, d.0), rw (some, d.1))

-- a length of the inner's that is none of the outer's is one of the set
pub in_lacking : (i o n : ℕ) → permitted i n ≡ true → permitted o n ≡ false → permitted (lacking i o) n ≡ true
unfolding permitted
in_lacking i o n p q =
    let some : ltb 0 n ≡ true = and_left (ltb 0 n) (eqb (i / 2 ^ n % 2) 1) p in
    let a : i / 2 ^ n % 2 ≡ 1 = eqb-true (i / 2 ^ n % 2) 1 (and_right (ltb 0 n) (eqb (i / 2 ^ n % 2) 1) p) in
    let b : o / 2 ^ n % 2 ≡ 0 = none (ltb 0 n) (o / 2 ^ n % 2) some (bit o n) q in
    rw (some) (rw (digit i o n, a, b))
  where
    none : (t : Bool) (x : ℕ) → t ≡ true → x < 2 → (t && eqb x 1) ≡ false → x ≡ 0
    none true x e l h = let z = eqb-false x 1 h in omega arith
    none false x e l h = absurd (true_false e refl)
