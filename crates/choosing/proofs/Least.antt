-- The number that weighs least: one turn of the search. Assumes nothing.
use Prim.Native.Nat.{ℕ, zero, suc, ◌+◌, ◌<◌, ◌≤◌}
use native.Mathlib.Numerals.{add-one}
use native.Mathlib.Omega.{arith}
use mathlib.Core.Path.{◌≡◌, refl, sym, ap, ◌∙◌}
use mathlib.Core.Bool.{Bool, true, false, cond}
use lib.Dec.{eqb, ltb}
use borrow.Author.Tests.{lt-ltb, le-ltb, ltb-true, ltb-false, eqb-true, eqb-false}
use Rattle.choosing.specs.Choices.{least}

pub least_none : (f : ℕ → ℕ) (d : ℕ) → d ≡ least f d 0
unfolding least
least_none f d = refl

-- one more, that weighs less than the best so far, or does not
pub least_less : (f : ℕ → ℕ) (d m best : ℕ) → best ≡ least f d m → f m < f best → m ≡ least f d (m + 1)
unfolding least
least_less f d m best e h = rw (add-one, ← e, lt-ltb (f m) (f best) h)

pub least_same : (f : ℕ → ℕ) (d m best : ℕ) → best ≡ least f d m → f best ≤ f m → best ≡ least f d (m + 1)
unfolding least
least_same f d m best e h = rw (add-one, ← e, le-ltb (f m) (f best) h)

-- it is one of those below m, or the one that stands where there is no other
pub least_below : (f : ℕ → ℕ) (d m n : ℕ) → d < n → m ≤ n → least f d m < n
unfolding least
least_below f d zero n h k = h
least_below f d (suc m) n h k = go (ltb (f m) (f (least f d m))) (least_below f d m n h)
  where
    go : (q : Bool) → (m ≤ n → least f d m < n) → cond q m (least f d m) < n
    go true ih = omega arith
    go false ih = ih (omega arith)

-- none of them weighs less
pub least_is : (f : ℕ → ℕ) (d m k : ℕ) → k < m → f (least f d m) ≤ f k
unfolding least
least_is f d zero k h = absurd (omega arith)
least_is f d (suc m) k h = go (ltb (f m) (f (least f d m))) refl (least_is f d m k)
  where
    further : (p : Bool) → eqb k m ≡ p → (k < m → f (least f d m) ≤ f k) → f (least f d m) ≤ f m → f (least f d m) ≤ f k
    further true e ih l = rw (eqb-true k m e) l
    further false e ih l = ih (omega (arith, eqb-false k m e))

    nearer : (p : Bool) → eqb k m ≡ p → (k < m → f (least f d m) ≤ f k) → f m < f (least f d m) → f m ≤ f k
    nearer true e ih l = rw (eqb-true k m e) (omega arith)
    nearer false e ih l = omega (arith, ih (omega (arith, eqb-false k m e)))

    go : (q : Bool) → ltb (f m) (f (least f d m)) ≡ q → (k < m → f (least f d m) ≤ f k) → f (cond q m (least f d m)) ≤ f k
    go true e ih = nearer (eqb k m) refl ih (ltb-true (f m) (f (least f d m)) e)
    go false e ih = further (eqb k m) refl ih (ltb-false (f m) (f (least f d m)) e)

-- what is kept in the search of all numbers: the best so far, and its weight
abbrev pub Kept : (ℕ → ℕ) → ℕ → ℕ → ℕ → Type 0
Kept f best lowest code = (code ≤ 24389) × (best < 24389) × (best ≡ least f 24388 code) × (lowest ≡ f best)

module _ (f : ℕ → ℕ) (best lowest code weight next low : ℕ) (kept : Kept f best lowest code) (more : code < 24389) (weighs : weight ≡ f code) where
  pub kept_less : weight < lowest → next ≡ code → low ≡ weight → Kept f next low (code + 1)
  kept_less h e l = (
    omega arith,
    omega arith,
    e ∙ least_less f 24388 code best kept.2 (omega (arith, kept.3)),
    l ∙ weighs ∙ ap f (sym e),
  )

  pub kept_same : lowest ≤ weight → next ≡ best → low ≡ lowest → Kept f next low (code + 1)
  kept_same h e l = (
    omega arith,
    omega arith,
    e ∙ least_same f 24388 code best kept.2 (omega (arith, kept.3)),
    l ∙ kept.3 ∙ ap f (sym e),
  )
