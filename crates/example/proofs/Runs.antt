-- The value of a row's object: its length, and that the inner row is met by it. Assumes nothing.
use Prim.Native.Nat.{ℕ, zero, suc, ◌-◌, ◌<◌, ◌≤◌}
use native.Mathlib.Omega.{arith}
use mathlib.Core.Path.{◌≡◌, refl, sym, ap, ◌∙◌, subst}
use mathlib.Core.Bool.{Bool, true, false, not, ◌&&◌}
use mathlib.Core.List.{List, [], ◌∷◌}
use lib.Dec.{eqb}
use lib.ListN.{length, replicate, length-replicate}
use borrow.Author.Tests.{eqb-true, le-ltb, ne_eqb, not-true}
use Rattle.ground.specs.Lists.{leading, among}
use Rattle.ground.proofs.Lists.{true_false, and_right, alike_below_lem}
use Rattle.rules.specs.declared.Rule.{Rule}
use Rattle.rules.specs.declared.Rule.TheVariants.{Digits, Text, Lead, Code, Birth, Expiry, Raw, NotD}
use Rattle.std.specs.Prelude.{Ok}
use Rattle.rules.specs.Values.{is_text, takes, holds, judged}
use Rattle.rules.proofs.Verdicts.{means_taken}
use Rattle.edition.specs.declared.Row.{Row}
use Rattle.edition.specs.Sets.{permitted, only}
use Rattle.edition.specs.Rows.{set_formed, by_rule, row_formed}
use Rattle.edition.proofs.Sets.{never_0}
use Rattle.edition.proofs.Rows.{row_within, permits_most}
use Rattle.nesting.specs.Decision.{by_name, witness_of}
use Rattle.card.specs.Rules.{RowMet}
use Rattle.choosing.specs.Choices.{will_do}
use Rattle.example.specs.Cards.{at_most, sample_for, spelled, value_for}

at_most_is : (n : ℕ) → n ≤ 28 → at_most n ≡ n
unfolding at_most
at_most_is n h = rw (le-ltb 28 n h)

-- a permitted length is none but 1 to 28
pub some : (s n : ℕ) → permitted s n ≡ true → 0 < n
some s zero p = absurd (true_false p (never_0 s))
some s (suc n) p = omega arith

pub run_is : (n first rest : ℕ) → 0 < n → n ≤ 28 → spelled (at_most n) first rest ≡ first ∷ replicate (n - 1) rest
unfolding spelled
run_is n first rest some most = rw (at_most_is n most, ne_eqb n 0 (omega arith))

pub run_length : (n first rest : ℕ) → 0 < n → length (first ∷ replicate (n - 1) rest) ≡ n
run_length n first rest h = let e = length-replicate (n - 1) rest in omega arith

pub absent_is : (part : ℕ) (i o : Row) → value_for part i o 0 ≡ []
unfolding value_for spelled at_most
absent_is part i o = refl

-- a value has the length that is asked for
pub value_length : (part : ℕ) (i o : Row) (n : ℕ) → n ≤ 28 → length (value_for part i o n) ≡ n
unfolding value_for
value_length part i o zero h = ap length (absent_is part i o)
value_length part i o (suc n) h =
    ap length (run_is (suc n) _ _ (omega arith) h) ∙ run_length (suc n) (sample_for part i o).first (sample_for part i o).rest (omega arith)

-- ---- each rule takes its own run of bytes
many_in : (t : ℕ → Bool) (r m : ℕ) → t r ≡ true → length (replicate m r) ≤ leading t (replicate m r)
unfolding leading
many_in t r zero h = omega arith
many_in t r (suc m) h = rw h (omega (arith, many_in t r m h))

pub run_in : (t : ℕ → Bool) (f r m : ℕ) → t f ≡ true → t r ≡ true → length (f ∷ replicate m r) ≤ leading t (f ∷ replicate m r)
unfolding leading
run_in t f r m h k = rw h (omega (arith, many_in t r m k))

-- a set of one length permits no other
pub only_8 : (n : ℕ) → n ≤ 28 → permitted (only 8) n ≡ true → n ≡ 8
unfolding permitted
only_8 n h p = eqb-true n 8 (sym (alike_below_lem (permitted (only 8)) (λ (k : ℕ). eqb k 8) 29 refl n (omega arith)) ∙ p)

pub only_4 : (n : ℕ) → n ≤ 28 → permitted (only 4) n ≡ true → n ≡ 4
unfolding permitted
only_4 n h p = eqb-true n 4 (sym (alike_below_lem (permitted (only 4)) (λ (k : ℕ). eqb k 4) 29 refl n (omega arith)) ∙ p)

pub only_1 : (n : ℕ) → n ≤ 28 → permitted (only 1) n ≡ true → n ≡ 1
unfolding permitted
only_1 n h p = eqb-true n 1 (sym (alike_below_lem (permitted (only 1)) (λ (k : ℕ). eqb k 1) 29 refl n (omega arith)) ∙ p)

abbrev pub first_of : Rule → ℕ
first_of rule = by_name rule 0x32 0x42 0x33 0x4D 0x30

abbrev pub rest_of : Rule → ℕ
rest_of rule = by_name rule 0x32 0x42 0x33 0x4D 0x32

left_sense : (q : Bool) → not (q && false) ≡ true
left_sense true = refl
left_sense false = refl

taken : (rule : Rule) (s n : ℕ) → by_rule rule true (eqb s (only 8)) (eqb s (only 4)) false ≡ true → n ≤ 28 → permitted s n ≡ true
    → judged rule (first_of rule ∷ replicate (n - 1) (rest_of rule)) ≡ Ok tt
unfolding holds is_text among
taken Digits s n f h p = means_taken Digits (0x32 ∷ replicate (n - 1) 0x32) (run_in (takes Digits) 0x32 0x32 (n - 1) refl refl) refl
taken Text s n f h p = means_taken Text (0x42 ∷ replicate (n - 1) 0x42) (run_in (takes Text) 0x42 0x42 (n - 1) refl refl) refl
taken Lead s n f h p = means_taken Lead (0x33 ∷ replicate (n - 1) 0x33) (run_in (takes Lead) 0x33 0x33 (n - 1) refl refl) refl
taken Code s n f h p = means_taken Code (0x4D ∷ replicate (n - 1) 0x4D) (run_in (takes Code) 0x4D 0x4D (n - 1) refl refl) refl
taken Birth s n f h p =
    let e : n ≡ 8 = only_8 n h (subst (λ (x : ℕ). permitted x n ≡ true) (eqb-true s (only 8) f) p) in
    rw e (means_taken Birth (0x30 ∷ replicate 7 0x30) (run_in (takes Birth) 0x30 0x30 7 refl refl) refl)
taken Expiry s n f h p =
    let e : n ≡ 4 = only_4 n h (subst (λ (x : ℕ). permitted x n ≡ true) (eqb-true s (only 4) f) p) in
    rw e (means_taken Expiry (0x30 ∷ replicate 3 0x32) (run_in (takes Expiry) 0x30 0x32 3 refl refl) refl)
taken Raw s n f h p = absurd (true_false f refl)
taken NotD s n f h p = means_taken NotD (0x42 ∷ replicate (n - 1) 0x42) (run_in (takes NotD) 0x42 0x42 (n - 1) refl refl) (left_sense (eqb (length (0x42 ∷ replicate (n - 1) 0x42)) 1))

-- the rule of a row that is not the checksum's
pub row_rule : (i : Row) → row_formed false i ≡ true → by_rule i.rule true (eqb i.lengths (only 8)) (eqb i.lengths (only 4)) false ≡ true
row_rule i f = and_right (set_formed i.lengths) (by_rule i.rule true (eqb i.lengths (only 8)) (eqb i.lengths (only 4)) false) f

pub most_28 : (i : Row) (n : ℕ) → row_formed false i ≡ true → permitted i.lengths n ≡ true → n ≤ 28
most_28 i n f p = permits_most i.lengths n (row_within false i f).small p

-- ---- of a row: a run of a permitted length meets it
pub run_met : (i : Row) (n : ℕ) → row_formed false i ≡ true → permitted i.lengths n ≡ true → RowMet i (first_of i.rule ∷ replicate (n - 1) (rest_of i.rule))
run_met i n f p = (
  subst (λ (k : ℕ). permitted i.lengths k ≡ true) (sym (run_length n (first_of i.rule) (rest_of i.rule) (some i.lengths n p))) p,
  taken i.rule i.lengths n (row_rule i f) (most_28 i n f p) p,
)

-- the value beside a plain row is the run of the row's own rule
pub plain_value : (part : ℕ) (i o : Row) (n : ℕ) → eqb part 2 ≡ false → 0 < n → n ≤ 28 → value_for part i o n ≡ first_of i.rule ∷ replicate (n - 1) (rest_of i.rule)
unfolding value_for sample_for witness_of
plain_value part i o n e some most = rw e (run_is n (first_of i.rule) (rest_of i.rule) some most)

-- ---- a length that will do is permitted, or it is 0 and the object is not required
pub will_some : (r : Row) (n : ℕ) → will_do r n ≡ true → 0 < n → permitted r.lengths n ≡ true
unfolding will_do
will_some r n h some = rw (ne_eqb n 0 (omega arith)) at h

pub will_none : (r : Row) → will_do r 0 ≡ true → r.required ≡ false
unfolding will_do
will_none r h = not-true r.required h

-- a value that meets a row has a length that will do
pub met_will : (r : Row) (v : List ℕ) → RowMet r v → will_do r (length v) ≡ true
unfolding will_do
met_will r [] m = rw m
met_will r (b ∷ v) m = rw (ne_eqb (suc (length v)) 0 (omega arith)) m.0

-- and where a length will do, the value meets the inner row
pub will_met : (part : ℕ) (i o : Row) (n : ℕ) → eqb part 2 ≡ false → row_formed false i ≡ true → will_do i n ≡ true → RowMet i (value_for part i o n)
will_met part i o zero e f h = subst (RowMet i) (sym (absent_is part i o)) (will_none i h)
will_met part i o (suc n) e f h =
    let p : permitted i.lengths (suc n) ≡ true = will_some i (suc n) h (omega arith) in
    subst (RowMet i) (sym (plain_value part i o (suc n) e (omega arith) (most_28 i (suc n) f p))) (run_met i (suc n) f p)
