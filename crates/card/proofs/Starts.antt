-- The places of values: their number, each of them, and that 11 by the places is 11 by the values. A sum that is too large has an object, and an object
-- has its tag two bytes before its value. Assumes nothing.
use Prim.Native.Nat.{ℕ, zero, suc, ◌+◌, ◌-◌, ◌≤◌, ◌<◌}
use native.Mathlib.Nat.{add-zero, zero-add, not-suc-le-zero}
use native.Mathlib.Omega.{arith}
use borrow.Author.Tests.{eqb-true, eq-eqb, ltb-true, ltb-false}
use mathlib.Core.Path.{◌≡◌, refl, ap, ◌∙◌}
use mathlib.Core.Bool.{Bool, true, false}
use mathlib.Core.List.{List, [], ◌∷◌, map}
use lib.Dec.{ltb}
use lib.ListN.{length, get_or, drop, length-drop, length-map, get_or-map, get_or-eq_default}
use lib.Seq.{get_or-drop}
use Rattle.ground.specs.Lists.{leading}
use Rattle.ground.proofs.Lists.{true_false, leading_at, leading_before}
use Rattle.card.specs.Refusals.{none, gate}
use Rattle.card.specs.Layout.{tag_at}
use Rattle.card.specs.Rules.{sum_fits, names_fit, town_fits, is_zero, first_present}
use Rattle.card.specs.Sums.{group_refusal, sums_refusal, tag_before}
use Rattle.card.specs.Places.{start_at, starts_from}

pub starts_length : (at : ℕ) (vs : List (List ℕ)) (k n : ℕ) → length (starts_from at vs k n) ≡ n
unfolding starts_from
starts_length at vs k zero = refl
starts_length at vs k (suc n) = ap suc (starts_length at vs (suc k) n)

pub starts_at : (at : ℕ) (vs : List (List ℕ)) (k n j : ℕ) → j < n → get_or (starts_from at vs k n) j 0 ≡ start_at at vs (k + j)
unfolding starts_from
starts_at at vs k zero j h = absurd (not-suc-le-zero h)
starts_at at vs k (suc n) zero h = rw (add-zero k)
starts_at at vs k (suc n) (suc j) h = starts_at at vs (suc k) n j (omega arith) ∙ ap (start_at at vs) (omega arith)

-- ---- 11 looks at the place of one object alone
pub sums_place : (p q : ℕ → ℕ) (ns : List ℕ) → (names_fit ns ≡ false → p (first_present 6 ns) ≡ q (first_present 6 ns))
    → (town_fits ns ≡ false → p (first_present 12 ns) ≡ q (first_present 12 ns)) → sums_refusal p ns ≡ sums_refusal q ns
unfolding sums_refusal gate
sums_place p q ns a b = go (names_fit ns) refl (town_fits ns) refl
  where
    go : (m : Bool) → names_fit ns ≡ m → (n : Bool) → town_fits ns ≡ n
        → gate m (group_refusal p ns 6) (gate n (group_refusal p ns 12) none) ≡ gate m (group_refusal q ns 6) (gate n (group_refusal q ns 12) none)
    go false e n f = rw (a e)
    go true e false f = rw (b f)
    go true e true f = refl

-- where none is present from row k on, each has the length 0
none_there : (ns : List ℕ) (k j : ℕ) → length ns ≡ 16 → 16 ≤ first_present k ns → k ≤ j → get_or ns j 0 ≡ 0
none_there ns k j many h l = go (ltb j 16) refl
  where
    go : (q : Bool) → ltb j 16 ≡ q → get_or ns j 0 ≡ 0
    go true e =
        let i : k + (j - k) ≡ j = omega arith in
        let b = leading_before is_zero 0 (drop k ns) (j - k) (omega (arith, ltb-true j 16 e)) in
        let here = get_or-drop k ns (j - k) 0 ∙ ap (λ (n : ℕ). get_or ns n 0) i in
        eqb-true (get_or ns j 0) 0 (rw here at b)
    go false e = get_or-eq_default ns 0 {n = j} (omega (arith, ltb-false j 16 e))

names_none : (ns : List ℕ) → get_or ns 6 0 ≡ 0 → get_or ns 7 0 ≡ 0 → get_or ns 8 0 ≡ 0 → names_fit ns ≡ true
unfolding names_fit sum_fits
names_none ns a b c = rw (a, b, c)

town_none : (ns : List ℕ) → get_or ns 12 0 ≡ 0 → get_or ns 13 0 ≡ 0 → get_or ns 14 0 ≡ 0 → town_fits ns ≡ true
unfolding town_fits sum_fits
town_none ns a b c = rw (a, b, c)

-- so a group that is too long has an object
names_some : (ns : List ℕ) → length ns ≡ 16 → names_fit ns ≡ false → first_present 6 ns < 16
names_some ns many e = go (ltb (first_present 6 ns) 16) refl
  where
    go : (q : Bool) → ltb (first_present 6 ns) 16 ≡ q → first_present 6 ns < 16
    go true h = ltb-true _ _ h
    go false h =
        let none = none_there ns 6 in
        let l = ltb-false _ _ h in
        absurd (true_false (names_none ns (none 6 many l (omega arith)) (none 7 many l (omega arith)) (none 8 many l (omega arith))) e)

town_some : (ns : List ℕ) → length ns ≡ 16 → town_fits ns ≡ false → first_present 12 ns < 16
town_some ns many e = go (ltb (first_present 12 ns) 16) refl
  where
    go : (q : Bool) → ltb (first_present 12 ns) 16 ≡ q → first_present 12 ns < 16
    go true h = ltb-true _ _ h
    go false h =
        let none = none_there ns 12 in
        let l = ltb-false _ _ h in
        absurd (true_false (town_none ns (none 12 many l (omega arith)) (none 13 many l (omega arith)) (none 14 many l (omega arith))) e)

-- ---- the places that the values make
module _ (at : ℕ) (vs : List (List ℕ)) (many : length vs ≡ 16) where
  abbrev ns : List ℕ
  ns = map length vs

  tag-there : (i : ℕ) → i < 16 → (get_or ns i 0 ≡ 0 → ⊥) → tag_before (starts_from at vs 0 16) i ≡ tag_at at vs i
  unfolding start_at
  tag-there i h some = go (get_or vs i []) refl
    where
      start : get_or (starts_from at vs 0 16) i 0 ≡ start_at at vs i
      start = starts_at at vs 0 16 i h ∙ ap (start_at at vs) (zero-add i)

      go : (v : List ℕ) → get_or vs i [] ≡ v → tag_before (starts_from at vs 0 16) i ≡ tag_at at vs i
      go [] q = absurd (some (get_or-map length vs i [] ∙ ap length q))
      go (b ∷ v) q = let n : get_or (starts_from at vs 0 16) i 0 ≡ tag_at at vs i + 2 = start ∙ rw q in omega arith

  present-there : (k : ℕ) → first_present k ns < 16 → tag_before (starts_from at vs 0 16) (first_present k ns) ≡ tag_at at vs (first_present k ns)
  present-there k h =
      let stop = leading_at is_zero 0 (drop k ns) (omega (arith, length-drop k ns, length-map vs length)) in
      let here = get_or-drop k ns (leading is_zero (drop k ns)) 0 in
      tag-there (first_present k ns) h (λ z. true_false (eq-eqb (get_or ns (first_present k ns) 0) 0 z) (rw here at stop))

  pub sums_starts : sums_refusal (tag_before (starts_from at vs 0 16)) ns ≡ sums_refusal (tag_at at vs) ns
  sums_starts =
      let long : length ns ≡ 16 = length-map vs length ∙ many in
      sums_place _ _ ns (λ e. present-there 6 (names_some ns long e)) (λ e. present-there 12 (town_some ns long e))
