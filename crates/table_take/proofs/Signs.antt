-- A text that is put together of words falls apart into them again. Assumes nothing.
use Prim.Native.Nat.{ℕ, ◌≤◌, ◌<◌}
use native.Mathlib.Omega.{arith}
use borrow.Author.Tests.{leb-true, ne_eqb}
use mathlib.Core.Path.{◌≡◌, refl}
use mathlib.Core.Bool.{Bool, true, false, cond, ◌&&◌}
use mathlib.Core.List.{List, [], ◌∷◌, ◌++◌}
use lib.Dec.{leb}
use lib.ListN.{length}
use Rattle.ground.proofs.Lists.{and_left, and_right}
use Rattle.table_take.specs.Splitting.{is_blank, before, begins, lines, words, through}

-- ---- lists whose bytes lie between two numbers
pub data Among (lo hi : ℕ) : List ℕ → Type 0 where
  none : Among lo hi []
  more : {b : ℕ} {bs : List ℕ} → lo ≤ b → b ≤ hi → Among lo hi bs → Among lo hi (b ∷ bs)

pub among_append : {lo hi : ℕ} {xs ys : List ℕ} → Among lo hi xs → Among lo hi ys → Among lo hi (xs ++ ys)
among_append none t = t
among_append (more l h s) t = more l h (among_append s t)

pub among_wider : {lo hi : ℕ} {xs : List ℕ} (lo' hi' : ℕ) → lo' ≤ lo → hi ≤ hi' → Among lo hi xs → Among lo' hi' xs
among_wider lo' hi' p q none = none
among_wider lo' hi' p q (more {b} l h s) = more {b = b} (omega arith) (omega arith) (among_wider lo' hi' p q s)

unfoldable pub is_among : ℕ → ℕ → List ℕ → Bool
is_among lo hi [] = true
is_among lo hi (b ∷ bs) = leb lo b && (leb b hi && is_among lo hi bs)

pub among_of : (lo hi : ℕ) (l : List ℕ) → is_among lo hi l ≡ true → Among lo hi l
unfolding is_among
among_of lo hi [] e = none
among_of lo hi (b ∷ bs) e =
    let r = and_right (leb lo b) (leb b hi && is_among lo hi bs) e in
    more (leb-true lo b (and_left (leb lo b) (leb b hi && is_among lo hi bs) e)) (leb-true b hi (and_left (leb b hi) (is_among lo hi bs) r)) (among_of lo hi bs (and_right (leb b hi) (is_among lo hi bs) r))

-- a word: some signs
pub record Word (w : List ℕ) : Type 0 where
  pub some : 0 < length w
  pub signs : Among 0x21 0x7E w

pub not_blank : (b : ℕ) → 0x21 ≤ b → is_blank b ≡ false
not_blank b h = rw (ne_eqb b 0x20 (λ z. omega arith), ne_eqb b 0x09 (λ z. omega arith), ne_eqb b 0x0D (λ z. omega arith))

-- ---- a line ends at its end
pub line_flat : {l : List ℕ} → Among 0x20 0x7E l → (rest : List ℕ) → lines (l ++ (0x0A ∷ rest)) ≡ l ∷ lines rest
unfolding lines
line_flat none rest = refl
line_flat (more {b} {bs} lo hi s) rest = rw (ne_eqb b 0x0A (λ z. omega arith), line_flat s rest)

-- ---- words
words_cons : (b : ℕ) (bs : List ℕ) → words (b ∷ bs) ≡ cond (is_blank b) (words bs) (cond (begins bs) (before b (words bs)) ((b ∷ []) ∷ words bs))
unfolding words
words_cons b bs = refl

words_none : words [] ≡ []
unfolding words
words_none = refl

last_word : {b : ℕ} {bs : List ℕ} → Among 0x21 0x7E (b ∷ bs) → words (b ∷ bs) ≡ (b ∷ bs) ∷ []
last_word (more {b} lo hi none) = rw (words_cons b [], not_blank b lo, words_none)
last_word (more {b} lo hi (more {b = d} {bs = ds} lo2 hi2 s)) = rw (words_cons b (d ∷ ds), not_blank b lo, not_blank d lo2, last_word (more lo2 hi2 s))

next_word : {b : ℕ} {bs : List ℕ} → Among 0x21 0x7E (b ∷ bs) → (rest : List ℕ) → words (b ∷ (bs ++ (0x20 ∷ rest))) ≡ (b ∷ bs) ∷ words rest
next_word (more {b} lo hi none) rest = rw (words_cons b (0x20 ∷ rest), not_blank b lo, words_cons 0x20 rest)
next_word (more {b} lo hi (more {b = d} {bs = ds} lo2 hi2 s)) rest = rw (words_cons b (d ∷ (ds ++ (0x20 ∷ rest))), not_blank b lo, not_blank d lo2, next_word (more lo2 hi2 s) rest)

pub word_then : (w : List ℕ) → Word w → (rest : List ℕ) → words (w ++ (0x20 ∷ rest)) ≡ w ∷ words rest
word_then [] p rest = absurd (omega (arith, p.some))
word_then (b ∷ bs) p rest = next_word p.signs rest

pub word_alone : (w : List ℕ) → Word w → words w ≡ w ∷ []
word_alone [] p = absurd (omega (arith, p.some))
word_alone (b ∷ bs) p = last_word p.signs

-- ---- going through two lists, one behind the other
pub through_cons : {A B : Type 0} (f : A → B → A) (a : A) (b : B) (bs : List B) → through f a (b ∷ bs) ≡ through f (f a b) bs
unfolding through
through_cons f a b bs = refl

pub through_append : {A B : Type 0} (f : A → B → A) (a : A) (xs ys : List B) → through f a (xs ++ ys) ≡ through f (through f a xs) ys
unfolding through
through_append f a [] ys = refl
through_append f a (x ∷ xs) ys = through_append f (f a x) xs ys
