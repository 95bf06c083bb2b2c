-- Laws of lists of numbers, and of tests on them. Assumes nothing.
use Prim.Native.Nat.{ℕ, zero, suc, min, ◌+◌, ◌≤◌, ◌<◌, suc-le-suc}
use native.Mathlib.Nat.{le_of_suc-le-suc, not-suc-le-zero, zero-lt-suc}
use native.Mathlib.Numerals.{add-one}
use native.Mathlib.Omega.{arith}
use borrow.Author.Tests.{eqb-true, eqb-false, eq-eqb, ne_eqb}
use mathlib.Core.Path.{◌≡◌, refl, sym, ap, ◌∙◌}
use mathlib.Core.Bool.{Bool, true, false, cond, not, ◌&&◌, ◌||◌, or-true}
use mathlib.Core.List.{List, [], ◌∷◌, ◌++◌}
use lib.Dec.{eqb}
use lib.ListN.{length, get_or, take, drop}
use lib.Pointwise.{pointwise}
use lib.Seq.{drop-cons, drop-length}
use Rattle.std.specs.List.{prefix_len, zip}
use Rattle.ground.specs.Lists.{among, leading, agree, same_list}

-- ---- tests
pub true_false : {b : Bool} → b ≡ true → b ≡ false → ⊥
true_false p q = let z : ◌≡◌ {A = ℕ} 0 1 = cc in omega arith

pub and_left : (a b : Bool) → (a && b) ≡ true → a ≡ true
and_left true b e = refl
and_left false b e = e

pub and_right : (a b : Bool) → (a && b) ≡ true → b ≡ true
and_right true b e = e
and_right false b e = absurd (true_false e refl)

-- two tests agree on all numbers below n where a computed test says so
abbrev alike : Bool → Bool → Bool
alike true b = b
alike false b = not b

alike_same : (a b : Bool) → alike a b ≡ true → a ≡ b
alike_same true true e = refl
alike_same true false e = sym e
alike_same false true e = e
alike_same false false e = refl

abbrev pub alike_below : (ℕ → Bool) → (ℕ → Bool) → ℕ → Bool
alike_below f g zero = true
alike_below f g (suc n) = alike (f n) (g n) && alike_below f g n

pub alike_below_lem : (f g : ℕ → Bool) (n : ℕ) → alike_below f g n ≡ true → (k : ℕ) → k < n → f k ≡ g k
alike_below_lem f g zero t k h = absurd (not-suc-le-zero h)
alike_below_lem f g (suc n) t k h = go (eqb k n) refl (alike_below_lem f g n (and_right (alike (f n) (g n)) (alike_below f g n) t) k)
  where
    go : (q : Bool) → eqb k n ≡ q → (k < n → f k ≡ g k) → f k ≡ g k
    go true e ih = rw (eqb-true k n e) (alike_same (f n) (g n) (and_left (alike (f n) (g n)) (alike_below f g n) t))
    go false e ih = ih (omega (arith, eqb-false k n e))

-- ---- the head of a list that passes a test
module _ {A : Type 0} (f : A → Bool) (d : A) (xs : List A) (i : ℕ) where
  pub leading_pass : i < length xs → f (get_or xs i d) ≡ true → i + leading f (drop i xs) ≡ i + 1 + leading f (drop (i + 1) xs)
  unfolding leading
  leading_pass h t = rw (add-one, drop-cons xs i d, t) (omega arith)

  pub leading_stop : i < length xs → f (get_or xs i d) ≡ false → i + leading f (drop i xs) ≡ i
  unfolding leading
  leading_stop h t = rw (drop-cons xs i d, t) (omega arith)

  pub leading_end : i ≡ length xs → i + leading f (drop i xs) ≡ i
  unfolding leading
  leading_end h = rw (h, drop-length) (omega arith)

pub leading_most : {A : Type 0} (f : A → Bool) (xs : List A) → leading f xs ≤ length xs
unfolding leading
leading_most f [] = omega arith
leading_most f (x ∷ xs) = go (f x) (leading_most f xs)
  where
    go : (q : Bool) → leading f xs ≤ length xs → cond q (suc (leading f xs)) 0 ≤ suc (length xs)
    go true h = omega arith
    go false h = omega arith

-- each element before the count passes, and the one at it does not
pub leading_before : {A : Type 0} (f : A → Bool) (d : A) (xs : List A) (k : ℕ) → k < leading f xs → f (get_or xs k d) ≡ true
unfolding leading
leading_before f d [] k h = absurd (not-suc-le-zero h)
leading_before f d (x ∷ xs) k h = go (f x) refl k h (leading_before f d xs)
  where
    go : (q : Bool) → f x ≡ q → (k : ℕ) → k < cond q (suc (leading f xs)) 0 → ((j : ℕ) → j < leading f xs → f (get_or xs j d) ≡ true) → f (get_or (x ∷ xs) k d) ≡ true
    go true e zero l ih = e
    go true e (suc j) l ih = ih j (le_of_suc-le-suc l)
    go false e k l ih = absurd (not-suc-le-zero l)

pub leading_at : {A : Type 0} (f : A → Bool) (d : A) (xs : List A) → leading f xs < length xs → f (get_or xs (leading f xs) d) ≡ false
unfolding leading
leading_at f d [] h = absurd (not-suc-le-zero h)
leading_at f d (x ∷ xs) h = go (f x) refl h (leading_at f d xs)
  where
    go : (q : Bool) → f x ≡ q → cond q (suc (leading f xs)) 0 < suc (length xs) → (leading f xs < length xs → f (get_or xs (leading f xs) d) ≡ false)
        → f (get_or (x ∷ xs) (cond q (suc (leading f xs)) 0) d) ≡ false
    go true e l ih = ih (le_of_suc-le-suc l)
    go false e l ih = e

-- two tests that agree on each element count alike
pub leading_alike : {A : Type 0} (f g : A → Bool) (d : A) (xs : List A) → ((k : ℕ) → k < length xs → f (get_or xs k d) ≡ g (get_or xs k d)) → leading f xs ≡ leading g xs
unfolding leading
leading_alike f g d [] h = refl
leading_alike f g d (x ∷ xs) h = rw (h 0 (zero-lt-suc (length xs)), leading_alike f g d xs (λ k l. h (suc k) (suc-le-suc l)))

-- a wider test is passed by no fewer
pub leading_wider : {A : Type 0} (f g : A → Bool) (xs : List A) → ((x : A) → f x ≡ true → g x ≡ true) → length xs ≤ leading f xs → length xs ≤ leading g xs
unfolding leading
leading_wider f g [] w h = omega arith
leading_wider f g (x ∷ xs) w h = go (f x) refl h (leading_wider f g xs w)
  where
    go : (q : Bool) → f x ≡ q → suc (length xs) ≤ cond q (suc (leading f xs)) 0 → (length xs ≤ leading f xs → length xs ≤ leading g xs)
        → suc (length xs) ≤ cond (g x) (suc (leading g xs)) 0
    go true e l ih = rw (w x e) (omega (arith, ih (le_of_suc-le-suc l)))
    go false e l ih = absurd (not-suc-le-zero l)

-- ---- where two lists first differ
-- a list agrees with itself to its end, and two of one length that agree to the end are one
pub agree_self : (xs : List ℕ) → agree xs xs ≡ length xs
unfolding agree
agree_self [] = refl
agree_self (x ∷ xs) = rw (eq-eqb x x refl) (ap suc (agree_self xs))

pub agree_same : (xs ys : List ℕ) → length xs ≡ length ys → agree xs ys ≡ length xs → xs ≡ ys
unfolding agree
agree_same [] [] n e = refl
agree_same [] (y ∷ ys) n e = absurd (omega arith)
agree_same (x ∷ xs) [] n e = absurd (omega arith)
agree_same (x ∷ xs) (y ∷ ys) n e = go (eqb x y) refl e (agree_same xs ys)
  where
    go : (q : Bool) → eqb x y ≡ q → cond q (suc (agree xs ys)) 0 ≡ suc (length xs) → (length xs ≡ length ys → agree xs ys ≡ length xs → xs ≡ ys) → x ∷ xs ≡ y ∷ ys
    go true p l ih = rw (eqb-true x y p, ih (omega arith) (omega arith))
    go false p l ih = absurd (omega arith)

pub agree_within : (xs zs : List ℕ) → agree xs zs ≤ length zs
unfolding agree
agree_within [] zs = omega arith
agree_within (x ∷ xs) [] = omega arith
agree_within (x ∷ xs) (z ∷ zs) = go (eqb x z) (agree_within xs zs)
  where
    go : (q : Bool) → agree xs zs ≤ length zs → cond q (suc (agree xs zs)) 0 ≤ suc (length zs)
    go true h = omega arith
    go false h = omega arith

-- a longer list has what a shorter one has
pub among_more : (b t : ℕ) (ts : List ℕ) → among b ts ≡ true → among b (t ∷ ts) ≡ true
unfolding among
among_more b t ts h = rw (h, or-true)

pub among_front : (b : ℕ) (ts us : List ℕ) → among b ts ≡ true → among b (ts ++ us) ≡ true
unfolding among
among_front b [] us h = absurd (true_false h refl)
among_front b (t ∷ ts) us h = go (among_front b ts us) (eqb b t) h
  where
    go : (among b ts ≡ true → among b (ts ++ us) ≡ true) → (q : Bool) → (q || among b ts) ≡ true → (q || among b (ts ++ us)) ≡ true
    go ih true e = refl
    go ih false e = ih e

-- ---- the same list
pub same_other : (xs ys : List ℕ) → (length xs ≡ length ys → ⊥) → same_list xs ys ≡ false
unfolding same_list
same_other [] [] h = absurd (h refl)
same_other [] (y ∷ ys) h = refl
same_other (x ∷ xs) [] h = refl
same_other (x ∷ xs) (y ∷ ys) h = rw (same_other xs ys (λ e. h (ap suc e))) (go (eqb x y))
  where
    go : (q : Bool) → (q && false) ≡ false
    go true = refl
    go false = refl

eqb_suc : (m n : ℕ) → eqb m n ≡ eqb (suc m) (suc n)
eqb_suc m n = go (eqb m n) refl
  where
    go : (q : Bool) → eqb m n ≡ q → q ≡ eqb (suc m) (suc n)
    go true e = sym (eq-eqb (suc m) (suc n) (ap suc (eqb-true m n e)))
    go false e = sym (ne_eqb (suc m) (suc n) (λ z. eqb-false m n e (omega arith)))

pub same_agree : (xs ys : List ℕ) → length xs ≡ length ys → same_list xs ys ≡ eqb (agree ys xs) (length ys)
unfolding same_list agree
same_agree [] [] n = refl
same_agree [] (y ∷ ys) n = absurd (omega arith)
same_agree (x ∷ xs) [] n = absurd (omega arith)
same_agree (x ∷ xs) (y ∷ ys) n = go (same_agree xs ys (omega arith)) (eqb y x) refl (eqb x y) refl
  where
    go : same_list xs ys ≡ eqb (agree ys xs) (length ys) → (p : Bool) → eqb y x ≡ p → (q : Bool) → eqb x y ≡ q
        → (q && same_list xs ys) ≡ eqb (cond p (suc (agree ys xs)) 0) (suc (length ys))
    go ih true e true f = ih ∙ eqb_suc (agree ys xs) (length ys)
    go ih false e false f = sym (ne_eqb 0 (suc (length ys)) (λ z. absurd (omega arith)))
    go ih true e false f = absurd (eqb-false x y f (sym (eqb-true y x e)))
    go ih false e true f = absurd (eqb-false y x e (sym (eqb-true x y f)))

-- two lists that are the same are equal
pub same_equal : (xs ys : List ℕ) → same_list xs ys ≡ true → xs ≡ ys
unfolding same_list
same_equal [] [] e = refl
same_equal [] (y ∷ ys) e = absurd (true_false e refl)
same_equal (x ∷ xs) [] e = absurd (true_false e refl)
same_equal (x ∷ xs) (y ∷ ys) e =
    let h = eqb-true x y (and_left (eqb x y) (same_list xs ys) e) in
    let t = same_equal xs ys (and_right (eqb x y) (same_list xs ys) e) in
    cc

pub same_self : (xs : List ℕ) → same_list xs xs ≡ true
same_self xs = same_agree xs xs refl ∙ eq-eqb _ _ (agree_self xs)

-- ---- lists compared in pairs, as std compares them
pub same_pairs : (xs ys : List ℕ) → pointwise eqb xs ys ≡ same_list xs ys
unfolding same_list
same_pairs [] [] = refl
same_pairs [] (y ∷ ys) = refl
same_pairs (x ∷ xs) [] = refl
same_pairs (x ∷ xs) (y ∷ ys) = ap (λ (b : Bool). eqb x y && b) (same_pairs xs ys)

pub eqb_turned : (x y : ℕ) → eqb x y ≡ eqb y x
eqb_turned x y = go (eqb x y) refl (eqb y x) refl
  where
    go : (p : Bool) → eqb x y ≡ p → (q : Bool) → eqb y x ≡ q → p ≡ q
    go true e true f = refl
    go false e false f = refl
    go true e false f = absurd (eqb-false y x f (sym (eqb-true x y e)))
    go false e true f = absurd (eqb-false x y e (sym (eqb-true y x f)))

-- std counts by `1 + n`, and the definitions of this crate by `suc n`
pub one_more : (q : Bool) (n : ℕ) → cond q (1 + n) 0 ≡ cond q (suc n) 0
one_more true n = omega arith
one_more false n = refl

-- how many pairs at the head are alike, where both lists are cut to the length of the shorter
pub agree_pairs : (xs ys : List ℕ) (n : ℕ) → n ≡ min (length ys) (length xs) → prefix_len (λ (p : ℕ × ℕ). eqb p.0 p.1) (zip (take n ys) (take n xs)) ≡ agree xs ys
unfolding agree
agree_pairs [] [] zero e = refl
agree_pairs [] (y ∷ ys) zero e = refl
agree_pairs (x ∷ xs) [] zero e = refl
agree_pairs (x ∷ xs) (y ∷ ys) zero e = absurd (omega arith)
agree_pairs [] [] (suc n) e = absurd (omega arith)
agree_pairs [] (y ∷ ys) (suc n) e = absurd (omega arith)
agree_pairs (x ∷ xs) [] (suc n) e = absurd (omega arith)
agree_pairs (x ∷ xs) (y ∷ ys) (suc n) e = rw (eqb_turned y x, agree_pairs xs ys n (omega arith)) (one_more (eqb x y) (agree xs ys))
