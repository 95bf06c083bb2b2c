-- What writing takes under terminal has its places on the lines, and is text. Assumes nothing.
use mathlib.Core.Path.{◌≡◌, refl}
use mathlib.Core.Bool.{Bool, true, false, ◌&&◌}
use mathlib.Core.List.{List, [], ◌∷◌, map}
use Prim.Native.Nat.{ℕ, suc, ◌+◌, ◌≤◌, ◌<◌, ◌^◌}
use native.Mathlib.Nat.{lt_of_lt_of_le}
use native.Mathlib.Omega.{arith}
use borrow.Author.Tests.{ne_eqb, leb-true, leb-false, ltb-true}
use lib.Dec.{eqb, leb, ltb}
use lib.Pow.{pow_mono}
use lib.ListN.{length, get_or, length-append, get_or-map}
use Rattle.rules.specs.declared.Rule.{Rule}
use Rattle.rules.specs.declared.Rule.TheVariants.{Digits, Text, Lead, Code, Birth, Expiry, Raw, NotD}
use Rattle.rules.specs.Values.{is_text, by_class, takes}
use Rattle.rules.proofs.Verdicts.{taken_means}
use Rattle.ground.specs.Lists.{leading}
use Rattle.ground.proofs.Lists.{true_false, and_left, alike_below_lem, leading_wider}
use Rattle.edition.specs.declared.Row.{Row}
use Rattle.edition.specs.Sets.{permitted}
use Rattle.edition.specs.Rows.{tags, no_row}
use Rattle.edition.specs.Tables.{terminal}
use Rattle.edition.proofs.Sets.{beyond}
use Rattle.card.specs.Content.{Content}
use Rattle.card.specs.Rules.{entries, object_rows, RowMet, sum_fits, names_fit}
use Rattle.card.specs.Sums.{sums_refusal}
use Rattle.card.specs.Refusing.{content_refusal, edition_refusal}
use Rattle.card.proofs.Chains.{neither, gate_in}
use Rattle.card.proofs.Unrefused.{row_met}
use Rattle.front.specs.Lines.{value, spaced}
use Rattle.front.specs.Placing.{Fits}

-- ---- a row that is met
permits_to : (lengths n b : ℕ) → lengths < 2 ^ suc b → permitted lengths n ≡ true → n ≤ b
permits_to lengths n b small p = go (leb n b) refl
  where
    go : (q : Bool) → leb n b ≡ q → n ≤ b
    go true e = leb-true n b e
    go false e = absurd (true_false p (beyond lengths n (lt_of_lt_of_le small (pow_mono (leb-false n b e)))))

-- its value is no longer than its set's greatest
met_most : (r : Row) (v : List ℕ) (b : ℕ) → r.lengths < 2 ^ suc b → RowMet r v → length v ≤ b
met_most r [] b h m = omega arith
met_most r (x ∷ v) b h m = permits_to r.lengths (length (x ∷ v)) b h m.0

-- and is text, if its rule has digits or text
textual : (rule : Rule) → by_class rule true true false ≡ true → (b : ℕ) → takes rule b ≡ true → is_text b ≡ true
unfolding is_text
textual Digits t b e = rw e
textual Text t b e = e
textual Lead t b e = rw e
textual Code t b e = e
textual Birth t b e = rw e
textual Expiry t b e = rw e
textual Raw t b e = absurd (true_false t refl)
textual NotD t b e = e

met_text : (r : Row) (v : List ℕ) → by_class r.rule true true false ≡ true → RowMet r v → length v ≤ leading is_text v
met_text r [] t m = omega arith
met_text r (x ∷ v) t m = leading_wider (takes r.rule) is_text (x ∷ v) (textual r.rule t) (taken_means r.rule (x ∷ v) m.1).0

-- ---- the sixteen rows of terminal
abbrev row_at : ℕ → Row
unfolding terminal tags entries
row_at k = (get_or (object_rows terminal) k (record { tag = 0; row = no_row })).row

within_28 : (k : ℕ) → k < 16 → (row_at k).lengths < 2 ^ 29
unfolding terminal tags entries
within_28 k h = ltb-true (row_at k).lengths (2 ^ 29) (alike_below_lem (λ (j : ℕ). ltb (row_at j).lengths (2 ^ 29)) (λ (j : ℕ). true) 16 refl k h)

all_textual : (k : ℕ) → k < 16 → by_class (row_at k).rule true true false ≡ true
unfolding terminal tags entries
all_textual k h = alike_below_lem (λ (j : ℕ). by_class (row_at j).rule true true false) (λ (j : ℕ). true) 16 refl k h

-- ---- the names
some : (n : ℕ) → eqb (suc n) 0 ≡ false
some n = ne_eqb (suc n) 0 (λ z. omega arith)

abbrev names_taken : ℕ → ℕ → ℕ → Bool
names_taken a b c = sum_fits (leb a 15 && leb b 28 && leb c 15) a b c

names_short : (t g p : List ℕ) → names_taken (length t) (length g) (length p) ≡ true → length (spaced (spaced t g) p) ≤ 28
unfolding sum_fits spaced
names_short [] [] [] e = omega arith
names_short (x ∷ t) [] [] e =
    let n : ℕ = length t in
    let k = leb-true (suc n) 15 (and_left (leb (suc n) 15) true (and_left (leb (suc n) 15 && true) true (rw (some n) at e))) in
    omega arith
names_short [] (y ∷ g) [] e = let n : ℕ = length g in let k = leb-true (suc n) 28 (and_left (leb (suc n) 28) true (rw (some n) at e)) in omega arith
names_short [] [] (z ∷ p) e = let n : ℕ = length p in let k = leb-true (suc n) 15 (rw (some n) at e) in omega arith
names_short (x ∷ t) (y ∷ g) [] e =
    let n : ℕ = length t in
    let m : ℕ = length g in
    let k = leb-true (suc n + suc m + 0) 27 (rw (some n, some m) at e) in
    simp length-append (omega arith)
names_short (x ∷ t) [] (z ∷ p) e =
    let n : ℕ = length t in
    let m : ℕ = length p in
    let k = leb-true (suc n + 0 + suc m) 27 (rw (some n, some m) at e) in
    simp length-append (omega arith)
names_short [] (y ∷ g) (z ∷ p) e =
    let n : ℕ = length g in
    let m : ℕ = length p in
    let k = leb-true (0 + suc n + suc m) 27 (rw (some n, some m) at e) in
    simp length-append (omega arith)
names_short (x ∷ t) (y ∷ g) (z ∷ p) e =
    let n : ℕ = length t in
    let m : ℕ = length g in
    let i : ℕ = length p in
    let k = leb-true (suc n + suc m + suc i) 26 (rw (some n, some m, some i) at e) in
    let two = length-append t (0x20 ∷ y ∷ g) in
    simp length-append (omega arith)

-- ---- the whole
pub record Taken (c : Content) : Type 0 where
  pub fits : Fits c
  pub text : (k : ℕ) → k < 16 → length (value c k) ≤ leading is_text (value c k)

pub taken : (c : Content) → (edition_refusal terminal c).number ≡ 0 → Taken c
unfolding edition_refusal content_refusal sums_refusal names_fit terminal tags entries
taken c z =
    let own = neither _ _ z in
    let ends = neither _ _ own.second in
    let rows = neither _ _ ends.second in
    let sums = neither _ _ rows.second in
    let names = (gate_in (names_fit (map length c.values)) _ _ (omega arith) sums.first).0 in
    let met : (k : ℕ) → k < 16 → RowMet (row_at k) (value c k) = λ k h. row_met (object_rows terminal) c.values k _ h rows.first in
    let long : (k : ℕ) → get_or (map length c.values) k 0 ≡ length (value c k) = λ k. get_or-map length c.values k [] in
    record {
      fits = record {
        short = λ k h. met_most (row_at k) (value c k) 28 (within_28 k h) (met k h);
        number = met_most (row_at 1) (value c 1) 7 (omega arith) (met 1 (omega arith));
        insured = met_most (row_at 3) (value c 3) 12 (omega arith) (met 3 (omega arith));
        status = met_most (row_at 4) (value c 4) 4 (omega arith) (met 4 (omega arith));
        validity = met_most (row_at 15) (value c 15) 4 (omega arith) (met 15 (omega arith));
        names = names_short (value c 6) (value c 7) (value c 8) (rw (long 6, long 7, long 8) at names);
      };
      text = λ k h. met_text (row_at k) (value c k) (all_textual k h) (met k h);
    }
