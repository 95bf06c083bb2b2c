-- Lines and words are what lies between their ends; a list is gone through one element after the other. Assumes nothing.
use Prim.Native.Nat.{ℕ, zero, suc, ◌+◌, ◌-◌, ◌≤◌, ◌<◌}
use native.Mathlib.Numerals.{add-one}
use native.Mathlib.Omega.{arith}
use mathlib.Core.Path.{◌≡◌, refl, ◌∙◌}
use mathlib.Core.Bool.{Bool, true, false, cond, not}
use mathlib.Core.List.{List, [], ◌∷◌}
use lib.Dec.{eqb}
use lib.ListN.{length, get_or, take, drop, length-drop, drop_of_length-le, get_or-eq_default}
use lib.Seq.{drop-cons, drop-drop}
use Rattle.ground.specs.Lists.{leading}
use Rattle.table_take.specs.declared.Kind.TheVariants.{Blanks, Signs, Line}
use Rattle.table_take.specs.Taking.{is_remark}
use Rattle.table_take.specs.Splitting.{is_blank, is_kind, behind_kind, before, lines, words, through}

-- ---- going through a list
module _ {A B : Type 0} (f : A → B → A) (d : B) (xs : List B) (i : ℕ) where
  pub through_next : (a : A) → i < length xs → through f a (drop i xs) ≡ through f (f a (get_or xs i d)) (drop (i + 1) xs)
  unfolding through
  through_next a h = rw (add-one, drop-cons xs i d h)

  pub through_end : (a : A) → length xs ≤ i → through f a (drop i xs) ≡ a
  unfolding through
  through_end a h = rw (drop_of_length-le xs h)

-- ---- the first line of a text that is not empty
line_step : (b : ℕ) (bs : List ℕ) → lines bs ≡ take (leading (is_kind Line) bs) bs ∷ lines (drop (suc (leading (is_kind Line) bs)) bs) →
    lines (b ∷ bs) ≡ take (leading (is_kind Line) (b ∷ bs)) (b ∷ bs) ∷ lines (drop (suc (leading (is_kind Line) (b ∷ bs))) (b ∷ bs))
unfolding lines leading is_kind
line_step b bs ih = go (eqb b 0x0A)
  where
    go : (q : Bool) → cond q ([] ∷ lines bs) (before b (lines bs)) ≡ take (cond (not q) (suc (leading (is_kind Line) bs)) 0) (b ∷ bs) ∷ lines (drop (suc (cond (not q) (suc (leading (is_kind Line) bs)) 0)) (b ∷ bs))
    go true = refl
    go false = rw ih

pub first_line : (b : ℕ) (bs : List ℕ) → lines (b ∷ bs) ≡ take (leading (is_kind Line) (b ∷ bs)) (b ∷ bs) ∷ lines (drop (suc (leading (is_kind Line) (b ∷ bs))) (b ∷ bs))
unfolding lines leading is_kind
first_line b [] = go (eqb b 0x0A)
  where
    go : (q : Bool) → cond q ([] ∷ []) ((b ∷ []) ∷ []) ≡ take (cond (not q) 1 0) (b ∷ []) ∷ lines (drop (suc (cond (not q) 1 0)) (b ∷ []))
    go true = refl
    go false = refl
first_line b (d ∷ bs) = line_step b (d ∷ bs) (first_line d bs)

-- ---- the first word of a line, where there is one; what is skipped behind it is a blank or the end
-- a number that is not 0
abbrev some : ℕ → Bool
some zero = false
some (suc n) = true

first_word : (ys : List ℕ) → words ys ≡ cond (some (leading (is_kind Signs) ys)) (take (leading (is_kind Signs) ys) ys ∷ words (drop (suc (leading (is_kind Signs) ys)) ys)) (words (drop (suc (leading (is_kind Signs) ys)) ys))
unfolding words leading is_kind
first_word [] = refl
first_word (b ∷ []) = go (is_blank b)
  where
    go : (q : Bool) → cond q [] ((b ∷ []) ∷ []) ≡ cond (some (cond (not q) 1 0)) (take (cond (not q) 1 0) (b ∷ []) ∷ words (drop (suc (cond (not q) 1 0)) (b ∷ []))) (words (drop (suc (cond (not q) 1 0)) (b ∷ [])))
    go true = refl
    go false = refl
first_word (b ∷ (d ∷ bs)) = go (is_blank b) (is_blank d) (first_word (d ∷ bs))
  where
    go : (q r : Bool) → words (d ∷ bs)
        ≡ cond (some (cond (not r) (suc (leading (is_kind Signs) bs)) 0)) (take (cond (not r) (suc (leading (is_kind Signs) bs)) 0) (d ∷ bs) ∷ words (drop (suc (cond (not r) (suc (leading (is_kind Signs) bs)) 0)) (d ∷ bs))) (words (drop (suc (cond (not r) (suc (leading (is_kind Signs) bs)) 0)) (d ∷ bs)))
        → cond q (words (d ∷ bs)) (cond (not r) (before b (words (d ∷ bs))) ((b ∷ []) ∷ words (d ∷ bs)))
        ≡ cond (some (cond (not q) (suc (cond (not r) (suc (leading (is_kind Signs) bs)) 0)) 0))
        (take (cond (not q) (suc (cond (not r) (suc (leading (is_kind Signs) bs)) 0)) 0) (b ∷ (d ∷ bs)) ∷ words (drop (suc (cond (not q) (suc (cond (not r) (suc (leading (is_kind Signs) bs)) 0)) 0)) (b ∷ (d ∷ bs))))
        (words (drop (suc (cond (not q) (suc (cond (not r) (suc (leading (is_kind Signs) bs)) 0)) 0)) (b ∷ (d ∷ bs))))
    go true r ih = refl
    go false true ih = rw ih
    go false false ih = rw ih

skip_blanks : (xs : List ℕ) → words xs ≡ words (drop (leading (is_kind Blanks) xs) xs)
unfolding words leading is_kind
skip_blanks [] = refl
skip_blanks (b ∷ bs) = go (is_blank b) refl (skip_blanks bs)
  where
    go : (q : Bool) → is_blank b ≡ q → words bs ≡ words (drop (leading (is_kind Blanks) bs) bs) → words (b ∷ bs) ≡ words (drop (cond q (suc (leading (is_kind Blanks) bs)) 0) (b ∷ bs))
    go true e ih = rw e ih
    go false e ih = refl

some_yes : (n : ℕ) → 0 < n → some n ≡ true
some_yes zero h = absurd (omega arith)
some_yes (suc n) h = refl

some_no : (n : ℕ) → n ≤ 0 → some n ≡ false
some_no zero h = refl
some_no (suc n) h = absurd (omega arith)

-- the words from `at` on, where blanks end at s and signs at e
module _ (line : List ℕ) (at s e : ℕ) (blanks : s ≡ behind_kind Blanks line at) (signs : e ≡ behind_kind Signs line s) where
  from-word : words (drop at line) ≡ words (drop s line)
  from-word = skip_blanks (drop at line) ∙ rw (blanks, drop-drop)

  pub word_next : s < e → words (drop at line) ≡ take (e - s) (drop s line) ∷ words (drop (e + 1) line)
  word_next h =
      let n : e - s ≡ leading (is_kind Signs) (drop s line) = omega arith in
      let m : s + suc (leading (is_kind Signs) (drop s line)) ≡ e + 1 = omega arith in
      let t : 0 < leading (is_kind Signs) (drop s line) = omega arith in
      from-word ∙ first_word (drop s line) ∙ rw (some_yes _ t, n, drop-drop, m)

  pub no_word_next : e ≤ s → words (drop at line) ≡ words (drop (e + 1) line)
  no_word_next h =
      let m : s + suc (leading (is_kind Signs) (drop s line)) ≡ e + 1 = omega arith in
      let t : leading (is_kind Signs) (drop s line) ≤ 0 = omega arith in
      from-word ∙ first_word (drop s line) ∙ rw (some_no _ t, drop-drop, m)

-- the lines from `at` on, of which the first ends at e
pub line_next : (text : List ℕ) (at e : ℕ) → at < length text → e ≡ behind_kind Line text at → lines (drop at text) ≡ take (e - at) (drop at text) ∷ lines (drop (e + 1) text)
line_next text at e h is =
    let n : e - at ≡ leading (is_kind Line) (drop at text) = omega arith in
    let m : at + suc (leading (is_kind Line) (drop at text)) ≡ e + 1 = omega arith in
    whole (drop at text) (rw (length-drop) (omega arith)) ∙ rw (n, drop-drop, m)
  where
    whole : (xs : List ℕ) → 0 < length xs → lines xs ≡ take (leading (is_kind Line) xs) xs ∷ lines (drop (suc (leading (is_kind Line) xs)) xs)
    whole [] l = absurd (omega arith)
    whole (b ∷ bs) l = first_line b bs

-- ---- the first sign of a line
same_at : (l : List ℕ) (i a b : ℕ) → i < length l → get_or l i a ≡ get_or l i b
same_at [] i a b h = absurd (omega arith)
same_at (x ∷ l) zero a b h = refl
same_at (x ∷ l) (suc i) a b h = same_at l i a b (omega arith)

module _ (line : List ℕ) (s : ℕ) (is : s ≡ behind_kind Blanks line 0) where
  pub remark_at : s < length line → eqb (get_or line s 0) 0x23 ≡ is_remark line
  unfolding is_remark
  remark_at h = rw (← is, same_at line s 0x23 0 h)

  pub remark_none : length line ≤ s → true ≡ is_remark line
  unfolding is_remark
  remark_none h = rw (← is, get_or-eq_default line 0x23 h)
