-- One entry: by the lengths of two values, and as one number, which is 0 only where there is none. Assumes nothing.
use Prim.Native.Nat.{ℕ, suc, ◌≤◌}
use native.Mathlib.Omega.{arith}
use borrow.Author.Tests.{eq-eqb, ne_eqb}
use mathlib.Core.Path.{refl, sym, ◌≡◌, ◌∙◌}
use mathlib.Core.Bool.{Bool, true, false, cond}
use mathlib.Core.List.{List, [], map, ◌∷◌}
use lib.Dec.{eqb}
use lib.ListN.{length}
use Rattle.ground.specs.Lists.{agree}
use Rattle.differences.specs.Differences.{Difference, absent-in-first, absent-in-second, lengths_differ, index-differs, byte-differs, of_present, of_values, of_bytes}
use Rattle.differences.specs.Answers.{word, word_of}
use Rattle.differences.specs.Steps.{entry_of, some, unlike_entry}

-- ---- two values, by their lengths
pub values_unlike : (tag : ℕ) (v w : List ℕ) → (length v ≡ length w → ⊥) → entry_of (of_values tag v w) ≡ unlike_entry tag (length v) (length w)
unfolding of_values of_present
values_unlike tag [] [] h = absurd (h refl)
values_unlike tag [] (c ∷ w) h = refl
values_unlike tag (b ∷ v) [] h = rw (ne_eqb (suc (length v)) 0 (omega arith))
values_unlike tag (b ∷ v) (c ∷ w) h = rw (ne_eqb (suc (length v)) (suc (length w)) h, ne_eqb (suc (length v)) 0 (omega arith), ne_eqb (suc (length w)) 0 (omega arith))

pub values_alike : (tag : ℕ) (v w : List ℕ) → length v ≡ length w
    → of_values tag v w ≡ cond (eqb (agree v w) (length v)) [] (index-differs tag (agree v w) ∷ [])
unfolding of_values of_present agree
values_alike tag [] [] h = refl
values_alike tag [] (c ∷ w) h = absurd (omega arith)
values_alike tag (b ∷ v) [] h = absurd (omega arith)
values_alike tag (b ∷ v) (c ∷ w) h = rw (eq-eqb (suc (length v)) (suc (length w)) h)

-- of two values of one length, by the index of the first difference
module _ (tag : ℕ) (v w : List ℕ) (i : ℕ) (n : length v ≡ length w) (is : i ≡ agree v w) where
  pub index_none : i ≡ length v → 0 ≡ entry_of (of_values tag v w)
  index_none h = rw (values_alike tag v w n, eq-eqb (agree v w) (length v) (sym is ∙ h))

  pub index_some : (i ≡ length v → ⊥) → (r : ℕ) → r ≡ word 4 tag i → r ≡ entry_of (of_values tag v w)
  index_some h r e = rw (values_alike tag v w n, ne_eqb (agree v w) (length v) (λ q. h (is ∙ q)), ← is) e

-- ---- at most one entry for a pair
one_or_none : (q : Bool) (x : Difference) → length (cond q [] (x ∷ [])) ≤ 1
one_or_none true x = omega arith
one_or_none false x = omega arith

pub few_of_values : (tag : ℕ) (v w : List ℕ) → length (of_values tag v w) ≤ 1
unfolding of_values of_present
few_of_values tag [] [] = omega arith
few_of_values tag [] (c ∷ w) = omega arith
few_of_values tag (b ∷ v) [] = omega arith
few_of_values tag (b ∷ v) (c ∷ w) = go (eqb (suc (length v)) (suc (length w)))
  where
    go : (q : Bool) → length (cond q (cond (eqb (agree (b ∷ v) (c ∷ w)) (suc (length v))) [] (index-differs tag (agree (b ∷ v) (c ∷ w)) ∷ [])) (lengths_differ tag ∷ [])) ≤ 1
    go true = one_or_none (eqb (agree (b ∷ v) (c ∷ w)) (suc (length v))) (index-differs tag (agree (b ∷ v) (c ∷ w)))
    go false = omega arith

pub few_of_bytes : (address b c : ℕ) → length (of_bytes address b c) ≤ 1
unfolding of_bytes
few_of_bytes address b c = one_or_none (eqb b c) (byte-differs address)

-- ---- an entry is not 0
not_0 : (x : Difference) → word_of x ≡ 0 → ⊥
not_0 (absent-in-first tag) h = omega arith
not_0 (absent-in-second tag) h = omega arith
not_0 (lengths_differ tag) h = omega arith
not_0 (index-differs tag i) h = omega arith
not_0 (byte-differs address) h = omega arith

pub some_few : (entry : ℕ) → length (some entry) ≤ 1
some_few entry = go (eqb entry 0)
  where
    go : (q : Bool) → length (cond q [] (entry ∷ [])) ≤ 1
    go true = omega arith
    go false = omega arith

pub some_entry : (l : List Difference) → length l ≤ 1 → some (entry_of l) ≡ map word_of l
some_entry [] h = refl
some_entry (x ∷ []) h = rw (ne_eqb (word_of x) 0 (not_0 x))
some_entry (x ∷ y ∷ l) h = absurd (omega arith)
