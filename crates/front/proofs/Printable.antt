-- A front that is not refused has four lines of 28 printable characters. Assumes nothing.
use mathlib.Core.Path.{◌≡◌, refl, sym}
use mathlib.Core.Bool.{Bool, true, false, cond, not, ◌&&◌, ◌||◌}
use mathlib.Core.List.{List, [], ◌∷◌, ◌++◌, map}
use Prim.Native.Nat.{ℕ, zero, suc, ◌-◌, ◌≤◌, ◌<◌}
use native.Mathlib.Nat.{le_of_suc-le-suc, not-suc-le-zero}
use native.Mathlib.Omega.{arith}
use borrow.Author.Tests.{eqb-true, eqb-false, ne_eqb, leb-true}
use lib.Dec.{eqb, leb}
use lib.ListN.{length, get_or, take, replicate}
use Rattle.ground.specs.Lists.{among, leading}
use Rattle.ground.specs.Pieces.{joined}
use Rattle.ground.proofs.Lists.{true_false, and_left, and_right}
use Rattle.rules.specs.Values.{is_text}
use Rattle.card.specs.Content.{Content}
use Rattle.front.specs.Lines.{value, to_one, to_nine, stay, sign_of, addition_sign, status_shown, spaced, forenames, on_one_line, first_of, second_of, field, name_line, family_line, number_line, lines_of, end_to_end}
use Rattle.front.specs.Refusing.{other_rows, printed_rows, underscored}
use Rattle.front.specs.Placing.{Fits}
use Rattle.front.specs.Promises.{printable, all_of, Lines28}
use Rattle.front.proofs.Spaced.{field_long}
use Rattle.front.proofs.Long.{name_long, family_long, number_long}
use Rattle.front.proofs.Taken.{taken}
use Rattle.front.proofs.Gates.{free}
use Rattle.front.proofs.Invisible.{among_all, or_right}

-- ---- each line has 28 places
module _ (c : Content) (f : Fits c) where
  lines_long : (fund : Bool) → map length (lines_of fund c) ≡ 28 ∷ 28 ∷ 28 ∷ 28 ∷ []
  unfolding lines_of
  lines_long true = rw (name_long c f, family_long c f, field_long 28 (value c 0) (f.short 0 (omega arith)), number_long c f)
  lines_long false = rw (name_long c f, family_long c f, field_long 28 [] (omega arith), number_long c f)

-- ---- lists whose bytes all pass a test
both : (a b : Bool) → a ≡ true → b ≡ true → (a && b) ≡ true
both true b e f = f
both false b e f = e

module _ (f : ℕ → Bool) where
  all_append : (a b : List ℕ) → all_of f a ≡ true → all_of f b ≡ true → all_of f (a ++ b) ≡ true
  unfolding all_of
  all_append [] b e h = h
  all_append (x ∷ a) b e h = both (f x) (all_of f (a ++ b)) (and_left (f x) (all_of f a) e) (all_append a b (and_right (f x) (all_of f a) e) h)

  all_take : (n : ℕ) (a : List ℕ) → all_of f a ≡ true → all_of f (take n a) ≡ true
  unfolding all_of
  all_take zero a e = refl
  all_take (suc n) [] e = refl
  all_take (suc n) (x ∷ a) e = both (f x) (all_of f (take n a)) (and_left (f x) (all_of f a) e) (all_take n a (and_right (f x) (all_of f a) e))

  all-leading : (a : List ℕ) → length a ≤ leading f a → all_of f a ≡ true
  unfolding all_of leading
  all-leading [] h = refl
  all-leading (x ∷ a) h = go (f x) refl h (all-leading a)
    where
      go : (q : Bool) → f x ≡ q → suc (length a) ≤ cond q (suc (leading f a)) 0 → (length a ≤ leading f a → all_of f a ≡ true) → (f x && all_of f a) ≡ true
      go true e l ih = both (f x) (all_of f a) e (ih (le_of_suc-le-suc l))
      go false e l ih = absurd (not-suc-le-zero l)

-- ---- text without an underscore is printable
plain : (v : List ℕ) → all_of is_text v ≡ true → among 0x5F v ≡ false → all_of printable v ≡ true
unfolding all_of among
plain [] e m = refl
plain (x ∷ v) e m = go (eqb 0x5F x) refl m (plain v (and_right (is_text x) (all_of is_text v) e))
  where
    go : (q : Bool) → eqb 0x5F x ≡ q → (q || among 0x5F v) ≡ false → (among 0x5F v ≡ false → all_of printable v ≡ true) → (printable x && all_of printable v) ≡ true
    go true p z ih = absurd (true_false refl z)
    go false p z ih =
        both (printable x) (all_of printable v) (both (is_text x) (not (eqb x 0x5F)) (and_left (is_text x) (all_of is_text v) e) (rw (ne_eqb x 0x5F (λ s. eqb-false 0x5F x p (sym s))))) (ih z)

clean_row : (c : Content) (ks : List ℕ) (k : ℕ) → among k ks ≡ true → underscored c ks ≡ false → among 0x5F (value c k) ≡ false
unfolding among underscored
clean_row c [] k a u = absurd (true_false a refl)
clean_row c (j ∷ ks) k a u = go (eqb k j) refl (among 0x5F (value c j)) refl a u (clean_row c ks k)
  where
    go : (q : Bool) → eqb k j ≡ q → (m : Bool) → among 0x5F (value c j) ≡ m → (q || among k ks) ≡ true → (m || underscored c ks) ≡ false
        → (among k ks ≡ true → underscored c ks ≡ false → among 0x5F (value c k) ≡ false) → among 0x5F (value c k) ≡ false
    go q e true m a u ih = absurd (true_false refl u)
    go true e false m a u ih = rw (eqb-true k j e) m
    go false e false m a u ih = ih a u

not-false : (q : Bool) → not q ≡ true → q ≡ false
not-false true e = sym e
not-false false e = refl

-- ---- fields and names of printable bytes
blanks_shown : (n : ℕ) → all_of printable (replicate n 0x20) ≡ true
unfolding all_of is_text among
blanks_shown zero = refl
blanks_shown (suc n) = blanks_shown n

field_shown : (n : ℕ) (v : List ℕ) → all_of printable v ≡ true → all_of printable (field n v) ≡ true
unfolding field
field_shown n v e = all_append printable v (replicate (n - length v) 0x20) e (blanks_shown (n - length v))

spaced_shown : (a b : List ℕ) → all_of printable a ≡ true → all_of printable b ≡ true → all_of printable (spaced a b) ≡ true
unfolding spaced all_of is_text among
spaced_shown a [] e h = e
spaced_shown [] (y ∷ b) e h = h
spaced_shown (x ∷ a) (y ∷ b) e h = all_append printable (x ∷ a) (0x20 ∷ y ∷ b) e h

first_shown : (a b : List ℕ) → all_of printable a ≡ true → all_of printable b ≡ true → all_of printable (first_of a b) ≡ true
unfolding first_of
first_shown a b e h = go (on_one_line a b)
  where
    go : (q : Bool) → all_of printable (cond q (spaced a b) a) ≡ true
    go true = spaced_shown a b e h
    go false = e

second_shown : (a b : List ℕ) → all_of printable b ≡ true → all_of printable (second_of a b) ≡ true
unfolding second_of all_of
second_shown a b h = go (on_one_line a b)
  where
    go : (q : Bool) → all_of printable (cond q [] b) ≡ true
    go true = refl
    go false = h

status_shown_lem : (v : List ℕ) → all_of printable v ≡ true → all_of printable (status_shown v) ≡ true
unfolding status_shown
status_shown_lem v e = go (eqb (get_or v 1 0x30) 0x30)
  where
    go : (q : Bool) → all_of printable (cond q (take 1 v) v) ≡ true
    go true = all_take printable 1 v e
    go false = e

sign_shown : (v : List ℕ) → all_of printable (addition_sign v) ≡ true
unfolding addition_sign sign_of all_of is_text among
sign_shown [] = refl
sign_shown (b ∷ []) = go (among b to_one) (among b to_nine) (among b stay) refl
  where
    go : (p q r : Bool) → among b stay ≡ r → all_of printable (cond p (0x31 ∷ []) (cond q (0x39 ∷ []) (cond r (b ∷ []) []))) ≡ true
    go true q r e = refl
    go false true r e = refl
    go false false true e = both (printable b) true (among_all printable b stay refl e) refl
    go false false false e = refl
sign_shown (b ∷ d ∷ v) = refl

-- ---- the lines, where each printed value is printable
module _ (c : Content) (shown : (k : ℕ) → among k other_rows ≡ true → all_of printable (value c k) ≡ true) where
  names-shown : all_of printable (forenames c) ≡ true
  unfolding among
  names-shown = spaced_shown (spaced (value c 6) (value c 7)) (value c 8) (spaced_shown (value c 6) (value c 7) (shown 6 refl) (shown 7 refl)) (shown 8 refl)

  name-shown : all_of printable (name_line c) ≡ true
  unfolding name_line among
  name-shown = field_shown 28 (first_of (forenames c) (value c 9)) (first_shown (forenames c) (value c 9) names-shown (shown 9 refl))

  family-shown : all_of printable (family_line c) ≡ true
  unfolding family_line among
  family-shown = field_shown 28 (second_of (forenames c) (value c 9)) (second_shown (forenames c) (value c 9) (shown 9 refl))

  number-shown : all_of printable (number_line c) ≡ true
  unfolding number_line among
  number-shown =
      all_append printable (field 7 (value c 1)) _ (field_shown 7 (value c 1) (shown 1 refl))
      (all_append printable (field 12 (value c 3)) _ (field_shown 12 (value c 3) (shown 3 refl))
      (all_append printable (field 4 (status_shown (value c 4))) _ (field_shown 4 (status_shown (value c 4)) (status_shown_lem (value c 4) (shown 4 refl)))
      (all_append printable (field 1 (addition_sign (value c 5))) (field 4 (value c 15)) (field_shown 1 (addition_sign (value c 5)) (sign_shown (value c 5))) (field_shown 4 (value c 15) (shown 15 refl)))))

  lines-shown : (fund : Bool) → (fund ≡ true → all_of printable (value c 0) ≡ true) → all_of printable (end_to_end (lines_of fund c)) ≡ true
  unfolding lines_of joined all_of
  lines-shown true h =
      all_append printable (name_line c) _ name-shown
      (all_append printable (family_line c) _ family-shown
      (all_append printable (field 28 (value c 0)) _ (field_shown 28 (value c 0) (h refl)) (all_append printable (number_line c) [] number-shown refl)))
  lines-shown false h =
      all_append printable (field 28 []) _ (field_shown 28 [] refl)
      (all_append printable (name_line c) _ name-shown
      (all_append printable (family_line c) _ family-shown (all_append printable (number_line c) [] number-shown refl)))

-- ---- a content that is not refused
in_rows : (fund : Bool) (k : ℕ) → among k other_rows ≡ true → among k (printed_rows fund) ≡ true
unfolding among
in_rows true k e = or_right (eqb k 0) (among k other_rows) e
in_rows false k e = e

first_row : (fund : Bool) → fund ≡ true → among 0 (printed_rows fund) ≡ true
unfolding among
first_row true e = refl
first_row false e = absurd (true_false e refl)

row_below : (k : ℕ) → among k other_rows ≡ true → k < 16
row_below k e = leb-true _ 16 (among_all (λ (j : ℕ). leb (suc j) 16) k other_rows refl e)

pub lines_28 : Lines28
lines_28 fund c n z =
    let f = free fund c n z in
    let t = taken c f.own in
    let clean = not-false (underscored c (printed_rows fund)) f.clean in
    let row : (k : ℕ) → k < 16 → among k (printed_rows fund) ≡ true → all_of printable (value c k) ≡ true =
    λ k h a. plain (value c k) (all-leading is_text (value c k) (t.text k h)) (clean_row c (printed_rows fund) k a clean) in
    record {
      long = lines_long c t.fits fund;
      shown = lines-shown c (λ k a. row k (row_below k a) (in_rows fund k a)) fund (λ e. row 0 (omega arith) (first_row fund e));
    }
