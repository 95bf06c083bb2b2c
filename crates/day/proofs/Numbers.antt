-- An accepted card's number is 6 to 12 digits, so that its padded form tells it. Assumes nothing.
use Prim.Native.Nat.{ℕ, zero, suc, ◌+◌, ◌-◌, ◌≤◌, ◌<◌, ◌^◌}
use native.Mathlib.Nat.{le_of_suc-le-suc, not-suc-le-zero, lt_of_lt_of_le}
use native.Mathlib.Omega.{arith}
use borrow.Author.Tests.{eq-eqb, eqb-true, le-leb, leb-true, leb-false}
use mathlib.Core.Path.{◌≡◌, refl, sym, ap, ◌∙◌}
use mathlib.Core.Bool.{Bool, true, false, ◌&&◌}
use mathlib.Core.List.{List, [], ◌∷◌, ◌++◌}
use lib.Dec.{leb, eqb}
use lib.Pow.{pow_mono}
use lib.ListN.{length, get_or, take, replicate}
use lib.Seq.{take-append-add, take-append_seam}
use Rattle.ground.specs.Lists.{leading, same_list}
use Rattle.ground.proofs.Lists.{true_false, and_left, and_right, alike_below_lem, leading_most, same_equal}
use Rattle.rules.specs.Values.{is_digit}
use Rattle.rules.specs.declared.Rule.TheVariants.{Digits}
use Rattle.rules.proofs.Verdicts.{taken_means}
use Rattle.edition.specs.declared.Row.{Row}
use Rattle.edition.specs.Sets.{permitted}
use Rattle.edition.specs.Rows.{tags, no_row}
use Rattle.edition.specs.Tables.{terminal}
use Rattle.edition.proofs.Sets.{beyond}
use Rattle.card.specs.Content.{Content}
use Rattle.card.specs.Rules.{Entry, entries, object_rows, RowMet, AllMet, none_left, one_more}
use Rattle.card.specs.Reading.{accepted, read_refusal, content_at, walk_of, values_in, answered as told, answer, answer_of}
use Rattle.card.proofs.Records.{content_back}
use Rattle.demands.proofs.ReadSound.{read_sound}
use Rattle.day.specs.Cards.{is_card, number_of, padded}
use Rattle.day.specs.Calls.{number_formed}
use Rattle.day.proofs.Opens.{same_self}
use Rattle.day.proofs.Sizes.{card_read}

-- ---- the content of a card
abbrev content_in : List ℕ → Content
content_in x = content_at x (take 16 (values_in (walk_of terminal x)))

card_accepted : (x : List ℕ) → is_card x ≡ true → answer terminal x ≡ accepted (content_in x)
unfolding answer told
card_accepted x t = rw (eq-eqb (read_refusal terminal x).number 0 (card_read x t))

card_content : (x : List ℕ) → is_card x ≡ true → number_of x ≡ get_or (content_in x).values 3 []
unfolding number_of answer_of
card_content x t = rw (card_accepted x t, content_back)

-- ---- the row of the insured number
met_at : {rs : List Entry} {vs : List (List ℕ)} → AllMet rs vs → (k : ℕ) (d : Entry) → k < length rs → RowMet (get_or rs k d).row (get_or vs k [])
met_at none_left k d h = absurd (not-suc-le-zero h)
met_at (one_more m all) zero d h = m
met_at (one_more m all) (suc k) d h = met_at all k d (le_of_suc-le-suc h)

abbrev number_row : Row
unfolding terminal tags entries
number_row = (get_or (object_rows terminal) 3 (record { tag = 0; row = no_row })).row

number_met : (x : List ℕ) → is_card x ≡ true → RowMet number_row (number_of x)
unfolding terminal tags entries
number_met x t =
    let m = (read_sound terminal x (content_in x) refl (card_accepted x t)).0 in
    rw (card_content x t) (met_at m.rows 3 (record { tag = 0; row = no_row }) (omega arith))

least : (n : ℕ) → permitted number_row.lengths n ≡ true → 6 ≤ n
unfolding terminal tags entries permitted
least n p = go (leb 6 n) refl
  where
    go : (q : Bool) → leb 6 n ≡ q → 6 ≤ n
    go true e = leb-true 6 n e
    go false e = absurd (true_false p (alike_below_lem (λ (j : ℕ). permitted number_row.lengths j) (λ (j : ℕ). false) 6 refl n (omega (arith, leb-false 6 n e))))

most : (n : ℕ) → permitted number_row.lengths n ≡ true → n ≤ 12
unfolding terminal tags entries
most n p = go (leb n 12) refl
  where
    small : number_row.lengths < 2 ^ 13
    small = omega arith

    go : (q : Bool) → leb n 12 ≡ q → n ≤ 12
    go true e = leb-true n 12 e
    go false e = absurd (true_false p (beyond number_row.lengths n (lt_of_lt_of_le small (pow_mono (leb-false n 12 e)))))

formed_of : (v : List ℕ) → 6 ≤ length v → length v ≤ 12 → length v ≤ leading is_digit v → number_formed v ≡ true
unfolding number_formed
formed_of v h k d =
    let e : leading is_digit v ≡ length v = omega (arith, leading_most is_digit v) in
    rw (le-leb 6 (length v) h, le-leb (length v) 12 k, eq-eqb (leading is_digit v) (length v) e)

met_formed : (v : List ℕ) → RowMet number_row v → number_formed v ≡ true
unfolding terminal tags entries
met_formed [] m = absurd (true_false refl m)
met_formed (b ∷ v) m = formed_of (b ∷ v) (least (length (b ∷ v)) m.0) (most (length (b ∷ v)) m.0) (taken_means Digits (b ∷ v) m.1).0

-- it is 6 to 12 digits
pub card_number : (x : List ℕ) → is_card x ≡ true → number_formed (number_of x) ≡ true
card_number x t = met_formed (number_of x) (number_met x t)

-- ---- a formed number is what its padded form begins with, up to the first blank
digits_then : (v : List ℕ) (k : ℕ) → leading is_digit v ≡ length v → leading is_digit (v ++ replicate k 0x20) ≡ length v
unfolding leading
digits_then [] zero h = refl
digits_then [] (suc k) h = refl
digits_then (x ∷ v) k h = go (is_digit x) refl h (digits_then v k)
  where
    go : (q : Bool) → is_digit x ≡ q → leading is_digit (x ∷ v) ≡ suc (length v) → (leading is_digit v ≡ length v → leading is_digit (v ++ replicate k 0x20) ≡ length v)
        → leading is_digit (x ∷ (v ++ replicate k 0x20)) ≡ suc (length v)
    go true e d ih =
        let k : suc (leading is_digit v) ≡ suc (length v) = rw e at d in
        rw e (ap suc (ih (omega arith)))
    go false e d ih =
        let k : ◌≡◌ {A = ℕ} 0 (suc (length v)) = rw e at d in
        absurd (omega arith)

fewer : (b k n : ℕ) → k ≤ n → take k (replicate n b) ≡ replicate k b
fewer b zero n h = refl
fewer b (suc k) zero h = absurd (not-suc-le-zero h)
fewer b (suc k) (suc n) h = ap (λ (l : List ℕ). b ∷ l) (fewer b k n (le_of_suc-le-suc h))

padded_is : (v : List ℕ) → length v ≤ 12 → padded v ≡ v ++ replicate (12 - length v) 0x20
unfolding padded
padded_is v h =
    let e : 12 ≡ length v + (12 - length v) = omega arith in
    ap (λ (n : ℕ). take n (v ++ replicate 12 0x20)) e ∙ take-append-add v (replicate 12 0x20) (12 - length v)
    ∙ ap (λ (l : List ℕ). v ++ l) (fewer 0x20 (12 - length v) 12 (omega arith))

module _ (v : List ℕ) (t : number_formed v ≡ true) where
  short : length v ≤ 12
  unfolding number_formed
  short =
      let r : (leb (length v) 12 && eqb (leading is_digit v) (length v)) ≡ true = and_right (leb 6 (length v)) (leb (length v) 12 && eqb (leading is_digit v) (length v)) t in
      leb-true (length v) 12 (and_left (leb (length v) 12) (eqb (leading is_digit v) (length v)) r)

  digits : leading is_digit v ≡ length v
  unfolding number_formed
  digits =
      let r : (leb (length v) 12 && eqb (leading is_digit v) (length v)) ≡ true = and_right (leb 6 (length v)) (leb (length v) 12 && eqb (leading is_digit v) (length v)) t in
      eqb-true (leading is_digit v) (length v) (and_right (leb (length v) 12) (eqb (leading is_digit v) (length v)) r)

  number_in : take (leading is_digit (padded v)) (padded v) ≡ v
  number_in = rw (padded_is v short, digits_then v (12 - length v) digits) (take-append_seam v (replicate (12 - length v) 0x20))

-- two formed numbers are the same exactly where their padded forms are
pub padded_same : (u v : List ℕ) → number_formed u ≡ true → number_formed v ≡ true → same_list (padded u) (padded v) ≡ same_list u v
padded_same u v s t = go (same_list u v) (same_list (padded u) (padded v)) refl refl
  where
    go : (p q : Bool) → same_list u v ≡ p → same_list (padded u) (padded v) ≡ q → same_list (padded u) (padded v) ≡ same_list u v
    go true q e f = let w : u ≡ v = same_equal u v e in ap (λ (x : List ℕ). same_list (padded u) (padded x)) (sym w) ∙ same_self (padded u) ∙ sym e
    go false true e f =
        let w : padded u ≡ padded v = same_equal (padded u) (padded v) f in
        let x : u ≡ v = sym (number_in u s) ∙ ap (λ (p : List ℕ). take (leading is_digit p) p) w ∙ number_in v t in
        absurd (true_false (ap (same_list u) (sym x) ∙ same_self u) e)
    go false false e f = f ∙ sym e
