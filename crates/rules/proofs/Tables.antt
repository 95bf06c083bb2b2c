-- What a table of kinds tells. Assumes nothing.
use Prim.Native.Nat.{ℕ, zero, suc, ◌+◌, ◌≤◌, ◌<◌, suc-le-suc}
use native.Mathlib.Nat.{zero-add, add-zero, add-suc, suc-add, le_of_suc-le-suc, not-suc-le-zero}
use native.Mathlib.Numerals.{add-one}
use native.Mathlib.Omega.{arith}
use borrow.Author.Tests.{leb-true, ltb-true, ltb-false, le-ltb}
use mathlib.Core.Path.{◌≡◌, refl}
use mathlib.Core.Bool.{Bool, true, false, cond}
use mathlib.Core.List.{List, [], ◌∷◌}
use lib.Bits.{bit_or, or_add_and, and_le_l, and_le_r}
use lib.Dec.{eqb, leb, ltb}
use lib.ListN.{length, get_or, drop, get_or-eq_default}
use lib.Seq.{drop-cons, drop-length}
use Rattle.rules.specs.declared.Rule.{Rule}
use Rattle.rules.specs.declared.Rule.TheVariants.{Digits, Text, Lead, Code, Birth, Expiry, Raw, NotD}
use Rattle.std.specs.Prelude.{Ok, Err}
use Rattle.rules.specs.declared.Fault.TheVariants.{Breaks}
use Rattle.ground.specs.Lists.{leading}
use Rattle.ground.proofs.Lists.{and_right}
use Rattle.rules.specs.Values.{is_digit, is_text, by_class, takes, holds, judged}
use Rattle.rules.specs.Kinds.{kind_of, kinds_from, kind_table, worst_in, within, judged_by}

-- ---- the loop over a value: what is passed is in `worst`, so what is told is that of the rest
pub worst_next : (t v : List ℕ) (i w : ℕ) → i < length v → get_or v i 0 < length t
    → worst_in t (bit_or w (get_or t (get_or v i 0) 0)) (drop (i + 1) v) ≡ worst_in t w (drop i v)
unfolding worst_in
worst_next t v i w h b = rw (add-one, drop-cons v i 0 h, same t (get_or v i 0) b)
  where
    same : (t : List ℕ) (k : ℕ) → k < length t → get_or t k 0 ≡ get_or t k 3
    same [] k h = absurd (not-suc-le-zero h)
    same (x ∷ t) zero h = refl
    same (x ∷ t) (suc k) h = same t k (le_of_suc-le-suc h)

pub worst_end : (t v : List ℕ) (i w : ℕ) → i ≡ length v → worst_in t w (drop i v) ≡ w
unfolding worst_in
worst_end t v i w e = rw (e, drop-length)

-- ---- no kind is above what is told
or_most : (a c : ℕ) → (a ≤ bit_or a c) × (c ≤ bit_or a c)
or_most a c =
    let s = or_add_and a c in
    let l = and_le_l a c in
    let r = and_le_r a c in
    (omega arith, omega arith)

worst_more : (t : List ℕ) (w : ℕ) (v : List ℕ) → w ≤ worst_in t w v
unfolding worst_in
worst_more t w [] = omega arith
worst_more t w (b ∷ v) =
    let m = or_most w (get_or t b 3) in
    let r = worst_more t (bit_or w (get_or t b 3)) v in
    omega arith

-- ---- the kind of a byte, and of what is none
kinds_at : (b n k : ℕ) → k < n → get_or (kinds_from b n) k 3 ≡ kind_of (b + k)
unfolding kinds_from
kinds_at b zero k h = absurd (not-suc-le-zero h)
kinds_at b (suc n) zero h = rw (add-zero b)
kinds_at b (suc n) (suc k) h = rw (add-suc b k, ← suc-add b k) (kinds_at (suc b) n k (le_of_suc-le-suc h))

kinds_long : (b n : ℕ) → length (kinds_from b n) ≡ n
unfolding kinds_from
kinds_long b zero = refl
kinds_long b (suc n) = omega (arith, kinds_long (suc b) n)

-- a kind within a rule's is a character of the rule
digit_kind : (a t : Bool) → cond a 0 (cond t 1 3) ≤ 0 → a ≡ true
digit_kind true t h = refl
digit_kind false true h = absurd (omega arith)
digit_kind false false h = absurd (omega arith)

-- a digit is text
digit_text : (b : ℕ) → is_digit b ≡ true → is_text b ≡ true
unfolding is_text
digit_text b e = rw e

text_kind : (b : ℕ) → kind_of b ≤ 1 → is_text b ≡ true
text_kind b h = go (is_digit b) refl (is_text b) refl h
  where
    go : (a : Bool) → is_digit b ≡ a → (t : Bool) → is_text b ≡ t → cond a 0 (cond t 1 3) ≤ 1 → is_text b ≡ true
    go true e true f l = f
    go true e false f l = digit_text b e
    go false e true f l = f
    go false e false f l = absurd (omega arith)

kind_taken : (rule : Rule) (b : ℕ) → kind_of b ≤ by_class rule 0 1 3 → takes rule b ≡ true
kind_taken Digits b h = digit_kind (is_digit b) (is_text b) h
kind_taken Text b h = text_kind b h
kind_taken Lead b h = digit_kind (is_digit b) (is_text b) h
kind_taken Code b h = text_kind b h
kind_taken Birth b h = digit_kind (is_digit b) (is_text b) h
kind_taken Expiry b h = digit_kind (is_digit b) (is_text b) h
kind_taken Raw b h = refl
kind_taken NotD b h = text_kind b h

-- what is no byte has the kind 3, which only the rule takes that takes all
none_taken : (rule : Rule) (b : ℕ) → 3 ≤ by_class rule 0 1 3 → takes rule b ≡ true
none_taken Digits b h = absurd (omega arith)
none_taken Text b h = absurd (omega arith)
none_taken Lead b h = absurd (omega arith)
none_taken Code b h = absurd (omega arith)
none_taken Birth b h = absurd (omega arith)
none_taken Expiry b h = absurd (omega arith)
none_taken Raw b h = refl
none_taken NotD b h = absurd (omega arith)

told_taken : (rule : Rule) (b : ℕ) → get_or kind_table b 3 ≤ by_class rule 0 1 3 → takes rule b ≡ true
unfolding kind_table
told_taken rule b h = go (ltb b 256) refl
  where
    go : (q : Bool) → ltb b 256 ≡ q → takes rule b ≡ true
    go true e = kind_taken rule b (rw (kinds_at 0 256 b (ltb-true b 256 e), zero-add b) at h)
    go false e = none_taken rule b (rw (get_or-eq_default (kinds_from 0 256) 3 {n = b} (omega (arith, kinds_long 0 256, ltb-false b 256 e))) at h)

-- ---- a value within its rule's kinds has only its characters
all_taken : (rule : Rule) (w : ℕ) (v : List ℕ) → worst_in kind_table w v ≤ by_class rule 0 1 3 → length v ≤ leading (takes rule) v
unfolding worst_in leading
all_taken rule w [] h = omega arith
all_taken rule w (b ∷ v) h =
    let m = or_most w (get_or kind_table b 3) in
    let r = worst_more kind_table (bit_or w (get_or kind_table b 3)) v in
    rw (told_taken rule b (omega arith)) (suc-le-suc (all_taken rule (bit_or w (get_or kind_table b 3)) v h))

within_taken : (rule : Rule) (v : List ℕ) → within kind_table rule v ≡ true → length v ≤ leading (takes rule) v
unfolding within
within_taken rule v e = all_taken rule 0 v (leb-true _ _ (and_right (eqb (length kind_table) 256) (leb (worst_in kind_table 0 v) (by_class rule 0 1 3)) e))

-- with the table of the kinds a value is judged as without one
pub by_kinds : (rule : Rule) (v : List ℕ) → judged_by kind_table rule v ≡ judged rule v
unfolding judged_by judged
by_kinds rule v = go (within kind_table rule v) refl
  where
    go : (q : Bool) → within kind_table rule v ≡ q → cond q (cond (holds rule v) (Ok tt) (Err Breaks)) (judged rule v) ≡ judged rule v
    go true e = rw (le-ltb (leading (takes rule) v) (length v) (within_taken rule v e))
    go false e = refl
