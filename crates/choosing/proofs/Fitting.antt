-- Where any three lengths fit, those chosen do, with the fewest bytes or the most; and where those chosen keep the sum, they fit. Assumes nothing.
use Prim.Native.Nat.{ℕ, zero, suc, ◌+◌, ◌*◌, ◌-◌, ◌/◌, ◌%◌, ◌<◌, ◌≤◌}
use native.Mathlib.Omega.{arith}
use mathlib.Core.Path.{◌≡◌, refl, ap, ◌∙◌, subst}
use mathlib.Core.Bool.{Bool, true, false, cond, ◌&&◌}
use lib.Dec.{eqb, leb, ltb}
use borrow.Author.Tests.{eqb-true, eqb-false, leb-true, ltb-true}
use Rattle.ground.proofs.Lists.{true_false}
use Rattle.edition.specs.declared.Row.{Row}
use Rattle.card.specs.Rules.{present, count_present, sum_fits}
use Rattle.card.proofs.Groups.{present_most}
use Rattle.choosing.specs.declared.Three.{Three}
use Rattle.choosing.specs.Choices.{will_do, size_of, three_of, sum_holds, fits, size_in, weight, least, weight_at, chosen}
use Rattle.choosing.proofs.Least.{least_below, least_is}

-- ---- three lengths of at most 28
pub record Small (t : Three) : Type 0 where
  pub first : t.first ≤ 28
  pub second : t.second ≤ 28
  pub third : t.third ≤ 28

three_small : (code : ℕ) → code < 24389 → Small (three_of code)
unfolding three_of
three_small code h = record { first = omega arith; second = omega arith; third = omega arith }

abbrev number_of : Three → ℕ
number_of t = t.first * 841 + t.second * 29 + t.third

number_back : (t : Three) → Small t → three_of (number_of t) ≡ t
unfolding three_of
number_back t s =
    let a : number_of t / 841 ≡ t.first = omega (arith, s.first, s.second, s.third) in
    let b : number_of t / 29 % 29 ≡ t.second = omega (arith, s.first, s.second, s.third) in
    let c : number_of t % 29 ≡ t.third = omega (arith, s.first, s.second, s.third) in
    rw (a, b, c)

-- ---- how many bytes
pub size_most : (n : ℕ) → size_of n ≤ n + 2
unfolding size_of
size_most n = go (eqb n 0)
  where
    go : (q : Bool) → cond q 0 (n + 2) ≤ n + 2
    go true = omega arith
    go false = omega arith

sizes_most : (t : Three) → Small t → size_in t ≤ 90
unfolding size_in
sizes_most t s = omega (arith, size_most t.first, size_most t.second, size_most t.third, s.first, s.second, s.third)

-- an object takes two bytes more than its value, where it is present
size_is : (n : ℕ) → size_of n ≡ n + (present n + present n)
unfolding size_of
size_is n = go (eqb n 0) refl
  where
    go : (q : Bool) → eqb n 0 ≡ q → cond q 0 (n + 2) ≡ n + (cond q 0 1 + cond q 0 1)
    go true e = omega (arith, eqb-true n 0 e)
    go false e = omega arith

size_by : (n : ℕ) → n ≤ 28 → size_of n ≤ 30 * present n
unfolding size_of
size_by n h = go (eqb n 0)
  where
    go : (q : Bool) → cond q 0 (n + 2) ≤ 30 * cond q 0 1
    go true = omega arith
    go false = omega arith

-- so three whose sum fits take at most 32
sum_most : (alone : Bool) (a b c : ℕ) → a ≤ 28 → b ≤ 28 → c ≤ 28 → sum_fits alone a b c ≡ true → size_of a + size_of b + size_of c ≤ 32
unfolding sum_fits
sum_most alone a b c x y z h = go (leb (count_present a b c) 1) (eqb (count_present a b c) 2) refl refl h
  where
    go : (p q : Bool) → leb (count_present a b c) 1 ≡ p → eqb (count_present a b c) 2 ≡ q → cond p alone (cond q (leb (a + b + c) 27) (leb (a + b + c) 26)) ≡ true
        → size_of a + size_of b + size_of c ≤ 32
    go true q e f h = omega (arith, size_by a x, size_by b y, size_by c z, leb-true (count_present a b c) 1 e)
    go false true e f h = omega (arith, size_is a, size_is b, size_is c, eqb-true (count_present a b c) 2 f, leb-true (a + b + c) 27 h)
    go false false e f h =
        omega (arith, size_is a, size_is b, size_is c, present_most a, present_most b, present_most c, leb-true (a + b + c) 26 h)

pub fits_most : (names : Bool) (t : Three) → Small t → sum_holds names t ≡ true → size_in t ≤ 32
unfolding sum_holds size_in
fits_most names t s h = sum_most _ t.first t.second t.third s.first s.second s.third h

-- ---- what fits weighs less than what does not
module _ (long names : Bool) (a b c : Row) where
  abbrev picked : Three
  picked = chosen long names a b c

  pub chosen_small : Small picked
  unfolding chosen
  chosen_small = three_small _ (least_below (weight_at long names a b c) 24388 24389 24389 (omega arith) (omega arith))

  heavy : (t : Three) → fits names a b c t ≡ false → weight long names a b c t ≡ 1000
  unfolding weight
  heavy t h = rw h

  light : (t : Three) → fits names a b c t ≡ true → weight long names a b c t ≡ cond long (999 - size_in t) (size_in t)
  unfolding weight
  light t h = rw h

  lighter : (t : Three) → Small t → fits names a b c t ≡ true → weight long names a b c t < 1000
  lighter t s h = go long (light t h)
    where
      go : (q : Bool) → weight long names a b c t ≡ cond q (999 - size_in t) (size_in t) → weight long names a b c t < 1000
      go true e = omega arith
      go false e = omega (arith, sizes_most t s)

  -- none weighs less than the three chosen
  chosen-least : (t : Three) → Small t → weight long names a b c picked ≤ weight long names a b c t
  unfolding chosen
  chosen-least t s =
      subst (λ (u : Three). weight long names a b c (chosen long names a b c) ≤ weight long names a b c u) (number_back t s)
      (least_is (weight_at long names a b c) 24388 24389 (number_of t) (omega (arith, s.first, s.second, s.third)))

  pub chosen_fits : (t : Three) → Small t → fits names a b c t ≡ true → fits names a b c picked ≡ true
  chosen_fits t s h = go (fits names a b c picked) refl
    where
      go : (q : Bool) → fits names a b c picked ≡ q → q ≡ true
      go true e = refl
      go false e = absurd (omega (arith, heavy picked e, chosen-least t s, lighter t s h))

pub chosen_fewest : (names : Bool) (a b c : Row) (t : Three) → Small t → fits names a b c t ≡ true → size_in (chosen false names a b c) ≤ size_in t
chosen_fewest names a b c t s h =
    omega (arith, light false names a b c (chosen false names a b c) (chosen_fits false names a b c t s h), light false names a b c t h, chosen-least false names a b c t s)

pub chosen_most : (names : Bool) (a b c : Row) (t : Three) → Small t → fits names a b c t ≡ true → size_in t ≤ size_in (chosen true names a b c)
chosen_most names a b c t s h =
    omega (
      arith,
      light true names a b c (chosen true names a b c) (chosen_fits true names a b c t s h),
      light true names a b c t h,
      chosen-least true names a b c t s,
      sizes_most t s,
      sizes_most (chosen true names a b c) (chosen_small true names a b c),
    )

-- ---- where those chosen keep the sum, they fit: else they are 28, 28 and 28
twenty_eights : (names : Bool) → sum_holds names (three_of 24388) ≡ false
unfolding sum_holds three_of sum_fits
twenty_eights true = refl
twenty_eights false = refl

last_heavy : (long names : Bool) (a b c : Row) → weight long names a b c (three_of 24388) ≡ 1000
unfolding fits
last_heavy long names a b c = heavy long names a b c (three_of 24388) (none (will_do a (three_of 24388).first && will_do b (three_of 24388).second && will_do c (three_of 24388).third) (twenty_eights names))
  where
    none : (q : Bool) {p : Bool} → p ≡ false → (q && p) ≡ false
    none true e = e
    none false e = refl

last_or_less : (f : ℕ → ℕ) (d m : ℕ) → (least f d m ≡ d → ⊥) → f (least f d m) < f d
unfolding least
last_or_less f d zero h = absurd (h refl)
last_or_less f d (suc m) h = go (ltb (f m) (f (least f d m))) refl h (last_or_less f d m) (eqb (least f d m) d) refl
  where
    go : (q : Bool) → ltb (f m) (f (least f d m)) ≡ q → (cond q m (least f d m) ≡ d → ⊥) → ((least f d m ≡ d → ⊥) → f (least f d m) < f d)
        → (p : Bool) → eqb (least f d m) d ≡ p → f (cond q m (least f d m)) < f d
    go false e h ih p s = ih h
    go true e h ih true s = rw (eqb-true (least f d m) d s) at (ltb-true (f m) (f (least f d m)) e)
    go true e h ih false s = omega (arith, ltb-true (f m) (f (least f d m)) e, ih (eqb-false (least f d m) d s))

pub sum_chosen : (long names : Bool) (a b c : Row) → sum_holds names (chosen long names a b c) ≡ true → fits names a b c (chosen long names a b c) ≡ true
unfolding chosen
sum_chosen long names a b c h = go (fits names a b c (chosen long names a b c)) refl
  where
    number : ℕ
    number = least (weight_at long names a b c) 24388 24389

    other : number ≡ 24388 → ⊥
    other e = true_false h (ap (λ (k : ℕ). sum_holds names (three_of k)) e ∙ twenty_eights names)

    go : (q : Bool) → fits names a b c (chosen long names a b c) ≡ q → q ≡ true
    go true e = refl
    go false e =
        absurd (omega (arith, heavy long names a b c (chosen long names a b c) e, last_heavy long names a b c, last_or_less (weight_at long names a b c) 24388 24389 other))
