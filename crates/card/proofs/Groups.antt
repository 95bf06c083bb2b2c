-- Sums of three lengths. Assumes nothing.
use Prim.Native.Nat.{ℕ, ◌+◌, ◌≤◌, ◌<◌}
use native.Mathlib.Omega.{arith}
use borrow.Author.Tests.{ltb-true, ltb-false, lt-leb, le-leb, ne_eqb, eq-eqb}
use mathlib.Core.Path.{◌≡◌, refl}
use mathlib.Core.Bool.{Bool, true, false, cond, ◌||◌}
use lib.Dec.{leb, ltb, eqb}
use Rattle.card.specs.Rules.{present, count_present, sum_fits}

pub present_most : (n : ℕ) → present n ≤ 1
present_most n = go (eqb n 0)
  where
    go : (q : Bool) → cond q 0 1 ≤ 1
    go true = omega arith
    go false = omega arith

-- one of three is past 27, or none is
abbrev pub past27 : ℕ → ℕ → ℕ → Bool
past27 a b c = ltb 27 a || ltb 27 b || ltb 27 c

pub record Low (a b c : ℕ) : Type 0 where
  pub first : a ≤ 27
  pub second : b ≤ 27
  pub third : c ≤ 27

pub all_low : (a b c : ℕ) → past27 a b c ≡ false → Low a b c
all_low a b c h = go (ltb 27 a) refl (ltb 27 b) refl (ltb 27 c) refl h
  where
    go : (p : Bool) → ltb 27 a ≡ p → (q : Bool) → ltb 27 b ≡ q → (r : Bool) → ltb 27 c ≡ r → (p || q || r) ≡ false → Low a b c
    go true e q f r g z = absurd (let w : ◌≡◌ {A = ℕ} 0 1 = cc in omega arith)
    go false e true f r g z = absurd (let w : ◌≡◌ {A = ℕ} 0 1 = cc in omega arith)
    go false e false f true g z = absurd (let w : ◌≡◌ {A = ℕ} 0 1 = cc in omega arith)
    go false e false f false g z = record { first = ltb-false _ _ e; second = ltb-false _ _ f; third = ltb-false _ _ g }

some_high : (a b c : ℕ) → past27 a b c ≡ true → 27 < a + b + c
some_high a b c h = go (ltb 27 a) refl (ltb 27 b) refl (ltb 27 c) refl h
  where
    go : (p : Bool) → ltb 27 a ≡ p → (q : Bool) → ltb 27 b ≡ q → (r : Bool) → ltb 27 c ≡ r → (p || q || r) ≡ true → 27 < a + b + c
    go true e q f r g z = omega (arith, ltb-true 27 a e)
    go false e true f r g z = omega (arith, ltb-true 27 b f)
    go false e false f true g z = omega (arith, ltb-true 27 c g)
    go false e false f false g z = absurd (let w : ◌≡◌ {A = ℕ} 0 1 = cc in omega arith)

module _ (alone : Bool) (a b c n : ℕ) (counted : n ≡ count_present a b c) where
  pub fits_alone : n ≤ 1 → sum_fits alone a b c ≡ alone
  unfolding sum_fits
  fits_alone h = rw (← counted, le-leb n 1 h)

  pub fits_never : 1 < n → past27 a b c ≡ true → sum_fits alone a b c ≡ false
  unfolding sum_fits
  fits_never h p =
      let high = some_high a b c p in
      rw (← counted, lt-leb n 1 h, lt-leb (a + b + c) 27 high, lt-leb (a + b + c) 26 (omega arith)) (same (eqb n 2))
    where
      same : (q : Bool) → cond q false false ≡ false
      same true = refl
      same false = refl

  pub fits_two : 1 < n → n ≡ 2 → sum_fits alone a b c ≡ leb (a + b + c) 27
  unfolding sum_fits
  fits_two h e = rw (← counted, lt-leb n 1 h, eq-eqb n 2 e)

  pub fits_three : 1 < n → (n ≡ 2 → ⊥) → sum_fits alone a b c ≡ leb (a + b + c) 26
  unfolding sum_fits
  fits_three h e = rw (← counted, lt-leb n 1 h, ne_eqb n 2 e)
