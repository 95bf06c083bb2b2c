-- The rows that stand in a sum, and those that do not: one after the other. Assumes nothing.
use Prim.Native.Nat.{ℕ, ◌+◌, ◌≤◌}
use native.Mathlib.Omega.{arith}
use mathlib.Core.Path.{◌≡◌, refl, sym, subst}
use mathlib.Core.Bool.{Bool, true, false, ◌&&◌, ◌||◌}
use lib.Dec.{leb, eqb}
use borrow.Author.Tests.{leb-true, eqb-true, eqb-false}
use Rattle.ground.proofs.Lists.{and_left, and_right}
use Rattle.example.specs.Cards.{grouped}

-- a row stands alone, or it is the first, second or third of the names or of the town
pub data Kind : ℕ → Type 0 where
  alone : {k : ℕ} → grouped k ≡ false → Kind k
  title : Kind 6
  given : Kind 7
  prefix : Kind 8
  country : Kind 12
  postal : Kind 13
  town : Kind 14

third : (P : ℕ → Type 0) (k n : ℕ) → n ≤ k → k ≤ n + 2 → P n → P (n + 1) → P (n + 2) → P k
third P k n l m a b c = go (eqb k n) refl (eqb k (n + 1)) refl
  where
    go : (p : Bool) → eqb k n ≡ p → (q : Bool) → eqb k (n + 1) ≡ q → P k
    go true e q f = subst P (sym (eqb-true k n e)) a
    go false e true f = subst P (sym (eqb-true k (n + 1) f)) b
    go false e false f =
        let last : n + 2 ≡ k = omega (arith, eqb-false k n e, eqb-false k (n + 1) f) in
        subst P last c

pub kind : (k : ℕ) → Kind k
unfolding grouped
kind k = go (leb 6 k && leb k 8) refl (leb 12 k && leb k 14) refl
  where
    go : (p : Bool) → (leb 6 k && leb k 8) ≡ p → (q : Bool) → (leb 12 k && leb k 14) ≡ q → Kind k
    go true e q f = third Kind k 6 (leb-true 6 k (and_left (leb 6 k) (leb k 8) e)) (leb-true k 8 (and_right (leb 6 k) (leb k 8) e)) title given prefix
    go false e true f = third Kind k 12 (leb-true 12 k (and_left (leb 12 k) (leb k 14) f)) (leb-true k 14 (and_right (leb 12 k) (leb k 14) f)) country postal town
    go false e false f = alone {k = k} (rw (e, f))

pub grouped_most : (k : ℕ) → grouped k ≡ true → k ≤ 14
unfolding grouped
grouped_most k h = go (leb 6 k && leb k 8) refl h
  where
    go : (q : Bool) → (leb 6 k && leb k 8) ≡ q → (q || (leb 12 k && leb k 14)) ≡ true → k ≤ 14
    go true e h = omega (arith, leb-true k 8 (and_right (leb 6 k) (leb k 8) e))
    go false e h = leb-true k 14 (and_right (leb 12 k) (leb k 14) h)
