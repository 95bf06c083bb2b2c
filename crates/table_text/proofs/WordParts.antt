-- Each word is a part of the string of all words, which is computed for all of them. Assumes nothing.
use Prim.Native.Nat.{ℕ, suc, ◌+◌, ◌-◌, ◌≤◌, ◌<◌}
use native.Mathlib.Numerals.{add-one}
use borrow.Author.Tests.{leb-true}
use mathlib.Core.Path.{◌≡◌, refl}
use mathlib.Core.Bool.{Bool, true}
use mathlib.Core.List.{List, []}
use lib.Dec.{leb}
use lib.ListN.{length, take, drop, get_or-eq_default}
use Rattle.ground.specs.Lists.{same_list}
use Rattle.ground.proofs.Lists.{alike_below, alike_below_lem, same_equal}
use Rattle.table_text.specs.Vocabulary.{bytes, vocabulary, word_of, starts, start_of}

abbrev pub all : List ℕ
all = bytes "fund-namefund-numberoffice-codeinsured-numberstatusstatus-additiontitlegiven-namename-prefixfamily-namebirth-datestreetcountrypostal-codetownvaliditychecksumrequiredoptionaldigitstextleadcodebirthexpiryrawtext-not-deditionnone"

-- the tests, for a word's number
is_part : ℕ → Bool
is_part i = same_list (take (start_of (suc i) - start_of i) (drop (start_of i) all)) (word_of i)

is_after : ℕ → Bool
is_after i = leb (start_of i) (start_of (suc i))

is_within : ℕ → Bool
is_within i = leb (start_of (suc i)) 226

is_short : ℕ → Bool
is_short i = leb (start_of (suc i)) (start_of i + 16)

is_low : ℕ → Bool
is_low i = leb (length (word_of i)) 16

yes_to : ℕ → Bool
yes_to i = true

parts : alike_below is_part yes_to 29 ≡ true
unfolding is_part yes_to same_list vocabulary starts
parts = refl

afters : alike_below is_after yes_to 29 ≡ true
unfolding is_after yes_to starts
afters = refl

withins : alike_below is_within yes_to 29 ≡ true
unfolding is_within yes_to starts
withins = refl

shorts : alike_below is_short yes_to 29 ≡ true
unfolding is_short yes_to starts
shorts = refl

lows : alike_below is_low yes_to 29 ≡ true
unfolding is_low yes_to vocabulary
lows = refl

module _ (i : ℕ) (h : i < 29) where
  pub word_part : take (start_of (i + 1) - start_of i) (drop (start_of i) all) ≡ word_of i
  unfolding is_part yes_to
  word_part = rw (add-one) (same_equal _ _ (alike_below_lem is_part yes_to 29 parts i h))

  pub word_after : start_of i ≤ start_of (i + 1)
  unfolding is_after yes_to
  word_after = rw (add-one) (leb-true _ _ (alike_below_lem is_after yes_to 29 afters i h))

  pub word_within : start_of (i + 1) ≤ 226
  unfolding is_within yes_to
  word_within = rw (add-one) (leb-true _ _ (alike_below_lem is_within yes_to 29 withins i h))

  pub word_short : start_of (i + 1) ≤ start_of i + 16
  unfolding is_short yes_to
  word_short = rw (add-one) (leb-true _ _ (alike_below_lem is_short yes_to 29 shorts i h))

  pub word_length : length (word_of i) ≤ 16
  unfolding is_low yes_to
  word_length = leb-true _ _ (alike_below_lem is_low yes_to 29 lows i h)

-- past the last word there is none
pub no_word : (i : ℕ) → 29 ≤ i → word_of i ≡ []
unfolding vocabulary
no_word i h = get_or-eq_default vocabulary [] h
