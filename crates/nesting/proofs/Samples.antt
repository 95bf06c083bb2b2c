-- For each rule a value that it takes, and that no rule takes but those that take all its values. Assumes nothing.
use Prim.Native.Nat.{ℕ, zero, suc, ◌-◌, ◌≤◌, ◌<◌}
use native.Mathlib.Omega.{arith}
use mathlib.Core.Path.{◌≡◌, refl, sym, ap, ◌∙◌, subst}
use mathlib.Core.Bool.{Bool, true, false, cond, not, ◌&&◌, ◌||◌}
use mathlib.Core.List.{List, [], ◌∷◌}
use lib.Count.{count_trailing_zeros}
use lib.ListN.{length, get_or, replicate, length-replicate}
use lib.Dec.{eqb, leb}
use borrow.Author.Tests.{eqb-true}
use Rattle.rules.specs.declared.Rule.{Rule}
use Rattle.rules.specs.declared.Rule.TheVariants.{Digits, Text, Lead, Code, Birth, Expiry, Raw, NotD}
use Rattle.std.specs.Prelude.{Ok}
use Rattle.ground.specs.Lists.{leading, among}
use Rattle.rules.specs.Values.{is_text, takes, two, holds, judged}
use Rattle.ground.proofs.Lists.{true_false, and_left, and_right, leading_before}
use Rattle.rules.proofs.Verdicts.{taken_means, means_taken, not_d_means}
use Rattle.edition.specs.declared.Row.{Row}
use Rattle.edition.specs.Sets.{permitted, only, shortest_of}
use Rattle.edition.specs.Rows.{set_formed, by_rule, row_formed}
use Rattle.edition.proofs.Sets.{Least, shortest_least, never_0}
use Rattle.edition.proofs.Rows.{Within28, set_within, last_formed}
use Rattle.nesting.specs.Decision.{number_of, numbers_in, rule_in, by_name, witness_of, value_of}
use Rattle.nesting.specs.Answers.{Against}

-- ---- a value of one byte and then another again and again
abbrev run : ℕ → ℕ → ℕ → List ℕ
run f r m = f ∷ replicate m r

many_in : (t : ℕ → Bool) (r m : ℕ) → t r ≡ true → length (replicate m r) ≤ leading t (replicate m r)
unfolding leading
many_in t r zero h = omega arith
many_in t r (suc m) h = rw h (omega (arith, many_in t r m h))

run_in : (t : ℕ → Bool) (f r m : ℕ) → t f ≡ true → t r ≡ true → length (run f r m) ≤ leading t (run f r m)
unfolding leading
run_in t f r m h k = rw h (omega (arith, many_in t r m k))

-- a birth date has eight bytes and an expiry four
birth_eight : (v : List ℕ) → holds Birth v ≡ true → length v ≡ 8
unfolding holds
birth_eight v h = go (eqb (length v) 8) refl h
  where
    go : (q : Bool) → eqb (length v) 8 ≡ q
        → (q && leb (two (get_or v 2 0) (get_or v 3 0)) 12 && leb (two (get_or v 0 0) (get_or v 1 0)) 31
        && (not (eqb (two (get_or v 2 0) (get_or v 3 0)) 0) || eqb (two (get_or v 0 0) (get_or v 1 0)) 0)) ≡ true → length v ≡ 8
    go true e h = eqb-true (length v) 8 e
    go false e h = absurd (true_false h refl)

expiry_four : (v : List ℕ) → holds Expiry v ≡ true → length v ≡ 4
unfolding holds
expiry_four v h = go (eqb (length v) 4) refl h
  where
    go : (q : Bool) → eqb (length v) 4 ≡ q
        → (q && leb 1 (two (get_or v 0 0) (get_or v 1 0)) && leb (two (get_or v 0 0) (get_or v 1 0)) 12) ≡ true → length v ≡ 4
    go true e h = eqb-true (length v) 4 e
    go false e h = absurd (true_false h refl)

birth_run : (f r m : ℕ) → holds Birth (run f r m) ≡ true → holds Birth (run f r 7) ≡ true
birth_run f r m h =
    let l : length (replicate m r) ≡ m = length-replicate m r in
    let n : suc (length (replicate m r)) ≡ 8 = birth_eight (run f r m) h in
    let e : m ≡ 7 = omega arith in
    subst (λ (k : ℕ). holds Birth (run f r k) ≡ true) e h

expiry_run : (f r m : ℕ) → holds Expiry (run f r m) ≡ true → holds Expiry (run f r 3) ≡ true
expiry_run f r m h =
    let l : length (replicate m r) ≡ m = length-replicate m r in
    let n : suc (length (replicate m r)) ≡ 4 = expiry_four (run f r m) h in
    let e : m ≡ 3 = omega arith in
    subst (λ (k : ℕ). holds Expiry (run f r k) ≡ true) e h

-- ---- what the sample of an inner rule shows, of each outer rule but raw and the one that leaves D out
abbrev Plain : Rule → Type 0
Plain o = (o ≡ Raw → ⊥) × (o ≡ NotD → ⊥)

pub record Chosen (i : Rule) (f r m : ℕ) : Type 0 where
  pub taken : judged i (run f r m) ≡ Ok tt
  pub outer : (o : Rule) → Plain o → takes o f ≡ true → holds o (run f r m) ≡ true → (b : Bool) → numbers_in b (number_of i) (number_of o) ≡ true

digits_chosen : (m : ℕ) → Chosen Digits 0x32 0x32 m
unfolding holds numbers_in
digits_chosen m = record {
  taken = means_taken Digits (run 0x32 0x32 m) (run_in (takes Digits) 0x32 0x32 m refl refl) refl;
  outer = out;
}
  where
    out : (o : Rule) → Plain o → takes o 0x32 ≡ true → holds o (run 0x32 0x32 m) ≡ true → (b : Bool) → numbers_in b 0 (number_of o) ≡ true
    out Digits n t h b = refl
    out Text n t h b = refl
    out Lead n t h b = absurd (true_false h refl)
    out Code n t h b = absurd (true_false h refl)
    out Birth n t h b = absurd (true_false (birth_run 0x32 0x32 m h) refl)
    out Expiry n t h b = absurd (true_false (expiry_run 0x32 0x32 m h) refl)
    out Raw n t h b = absurd (n.0 refl)
    out NotD n t h b = absurd (n.1 refl)

text_chosen : (m : ℕ) → Chosen Text 0x42 0x42 m
unfolding holds numbers_in is_text among
text_chosen m = record {
  taken = means_taken Text (run 0x42 0x42 m) (run_in (takes Text) 0x42 0x42 m refl refl) refl;
  outer = out;
}
  where
    out : (o : Rule) → Plain o → takes o 0x42 ≡ true → holds o (run 0x42 0x42 m) ≡ true → (b : Bool) → numbers_in b 1 (number_of o) ≡ true
    out Digits n t h b = absurd (true_false t refl)
    out Text n t h b = refl
    out Lead n t h b = absurd (true_false t refl)
    out Code n t h b = absurd (true_false h refl)
    out Birth n t h b = absurd (true_false t refl)
    out Expiry n t h b = absurd (true_false t refl)
    out Raw n t h b = absurd (n.0 refl)
    out NotD n t h b = absurd (n.1 refl)

lead_chosen : (m : ℕ) → Chosen Lead 0x33 0x33 m
unfolding holds numbers_in
lead_chosen m = record {
  taken = means_taken Lead (run 0x33 0x33 m) (run_in (takes Lead) 0x33 0x33 m refl refl) refl;
  outer = out;
}
  where
    out : (o : Rule) → Plain o → takes o 0x33 ≡ true → holds o (run 0x33 0x33 m) ≡ true → (b : Bool) → numbers_in b 2 (number_of o) ≡ true
    out Digits n t h b = refl
    out Text n t h b = refl
    out Lead n t h b = refl
    out Code n t h b = absurd (true_false h refl)
    out Birth n t h b = absurd (true_false (birth_run 0x33 0x33 m h) refl)
    out Expiry n t h b = absurd (true_false (expiry_run 0x33 0x33 m h) refl)
    out Raw n t h b = absurd (n.0 refl)
    out NotD n t h b = absurd (n.1 refl)

code_chosen : (m : ℕ) → Chosen Code 0x4D 0x4D m
unfolding holds numbers_in is_text among
code_chosen m = record {
  taken = means_taken Code (run 0x4D 0x4D m) (run_in (takes Code) 0x4D 0x4D m refl refl) refl;
  outer = out;
}
  where
    out : (o : Rule) → Plain o → takes o 0x4D ≡ true → holds o (run 0x4D 0x4D m) ≡ true → (b : Bool) → numbers_in b 3 (number_of o) ≡ true
    out Digits n t h b = absurd (true_false t refl)
    out Text n t h b = refl
    out Lead n t h b = absurd (true_false t refl)
    out Code n t h b = refl
    out Birth n t h b = absurd (true_false t refl)
    out Expiry n t h b = absurd (true_false t refl)
    out Raw n t h b = absurd (n.0 refl)
    out NotD n t h b = absurd (n.1 refl)

left_chosen : (m : ℕ) → Chosen NotD 0x42 0x42 m
unfolding holds numbers_in is_text among
left_chosen m = record {
  taken = means_taken NotD (run 0x42 0x42 m) (run_in (takes NotD) 0x42 0x42 m refl refl) (go (eqb (length (run 0x42 0x42 m)) 1));
  outer = out;
}
  where
    go : (q : Bool) → not (q && false) ≡ true
    go true = refl
    go false = refl

    out : (o : Rule) → Plain o → takes o 0x42 ≡ true → holds o (run 0x42 0x42 m) ≡ true → (b : Bool) → numbers_in b 7 (number_of o) ≡ true
    out Digits n t h b = absurd (true_false t refl)
    out Text n t h b = refl
    out Lead n t h b = absurd (true_false t refl)
    out Code n t h b = absurd (true_false h refl)
    out Birth n t h b = absurd (true_false t refl)
    out Expiry n t h b = absurd (true_false t refl)
    out Raw n t h b = absurd (n.0 refl)
    out NotD n t h b = absurd (n.1 refl)

birth_chosen : Chosen Birth 0x30 0x30 7
unfolding holds numbers_in judged leading
birth_chosen = record { taken = refl; outer = out }
  where
    out : (o : Rule) → Plain o → takes o 0x30 ≡ true → holds o (run 0x30 0x30 7) ≡ true → (b : Bool) → numbers_in b 4 (number_of o) ≡ true
    out Digits n t h b = refl
    out Text n t h b = refl
    out Lead n t h b = absurd (true_false h refl)
    out Code n t h b = absurd (true_false h refl)
    out Birth n t h b = refl
    out Expiry n t h b = absurd (true_false h refl)
    out Raw n t h b = absurd (n.0 refl)
    out NotD n t h b = absurd (n.1 refl)

expiry_chosen : Chosen Expiry 0x30 0x32 3
unfolding holds numbers_in judged leading
expiry_chosen = record { taken = refl; outer = out }
  where
    out : (o : Rule) → Plain o → takes o 0x30 ≡ true → holds o (run 0x30 0x32 3) ≡ true → (b : Bool) → numbers_in b 5 (number_of o) ≡ true
    out Digits n t h b = refl
    out Text n t h b = refl
    out Lead n t h b = absurd (true_false h refl)
    out Code n t h b = absurd (true_false h refl)
    out Birth n t h b = absurd (true_false h refl)
    out Expiry n t h b = refl
    out Raw n t h b = absurd (n.0 refl)
    out NotD n t h b = absurd (n.1 refl)

-- ---- the sample of a row that is not the checksum's
abbrev Formed : Rule → ℕ → Type 0
Formed rule s = by_rule rule true (eqb s (only 8)) (eqb s (only 4)) false ≡ true

abbrev first_of : Rule → ℕ
first_of i = by_name i 0x32 0x42 0x33 0x4D 0x30

abbrev rest_of : Rule → ℕ
rest_of i = by_name i 0x32 0x42 0x33 0x4D 0x32

eight : shortest_of (only 8) - 1 ≡ 7
unfolding shortest_of count_trailing_zeros
eight = refl

four : shortest_of (only 4) - 1 ≡ 3
unfolding shortest_of count_trailing_zeros
four = refl

chosen : (i : Rule) (s : ℕ) → Formed i s → Chosen i (first_of i) (rest_of i) (shortest_of s - 1)
chosen Digits s h = digits_chosen (shortest_of s - 1)
chosen Text s h = text_chosen (shortest_of s - 1)
chosen Lead s h = lead_chosen (shortest_of s - 1)
chosen Code s h = code_chosen (shortest_of s - 1)
chosen Birth s h = rw (eqb-true s (only 8) h) (rw (eight) birth_chosen)
chosen Expiry s h = rw (eqb-true s (only 4) h) (rw (four) expiry_chosen)
chosen Raw s h = absurd (true_false h refl)
chosen NotD s h = left_chosen (shortest_of s - 1)

head_taken : (t : ℕ → Bool) (f : ℕ) (v : List ℕ) → length (f ∷ v) ≤ leading t (f ∷ v) → t f ≡ true
head_taken t f v h = leading_before t 0 (f ∷ v) 0 (omega arith)

-- an outer rule that is not wide enough does not take the sample
not_taken : (i o : Rule) (s : ℕ) → Formed i s → Plain o → rule_in s i o ≡ false → judged o (run (first_of i) (rest_of i) (shortest_of s - 1)) ≡ Ok tt → ⊥
not_taken i o s h n out e =
    let c : Chosen i (first_of i) (rest_of i) (shortest_of s - 1) = chosen i s h in
    let t = taken_means o (run (first_of i) (rest_of i) (shortest_of s - 1)) e in
    true_false (c.outer o n (head_taken (takes o) (first_of i) (replicate (shortest_of s - 1) (rest_of i)) t.0) t.1 (permitted s 1)) out

-- ---- the single letter D
single : (s : ℕ) → Least s (shortest_of s) → permitted s 1 ≡ true → shortest_of s ≡ 1
single s l p = go (shortest_of s) l.member l.least
  where
    go : (n : ℕ) → permitted s n ≡ true → ((k : ℕ) → k < n → permitted s k ≡ false) → n ≡ 1
    go zero m f = absurd (true_false m (never_0 s))
    go (suc zero) m f = refl
    go (suc (suc n)) m f = absurd (true_false p (f 1 (omega arith)))

unless : (b : Bool) → (not b && true) ≡ false → b ≡ true
unless true h = refl
unless false h = absurd (true_false refl h)

pub record Shown (i o : Rule) (v : List ℕ) : Type 0 where
  pub inner : judged i v ≡ Ok tt
  pub outer : judged o v ≡ Ok tt → ⊥

d_text : Shown Text NotD (0x44 ∷ [])
unfolding judged leading holds is_text among
d_text = record { inner = refl; outer = λ e. ((not_d_means (0x44 ∷ [])).0 e).1 refl }

d_code : Shown Code NotD (0x44 ∷ [])
unfolding judged leading holds is_text among
d_code = record { inner = refl; outer = λ e. ((not_d_means (0x44 ∷ [])).0 e).1 refl }

d_shown : (i : Rule) (s : ℕ) → Least s (shortest_of s) → Formed i s → rule_in s i NotD ≡ false → Shown i NotD (run 0x44 0x44 (shortest_of s - 1))
unfolding numbers_in
d_shown Digits s l h out = absurd (true_false refl out)
d_shown Text s l h out = rw (single s l (unless (permitted s 1) out)) d_text
d_shown Lead s l h out = absurd (true_false refl out)
d_shown Code s l h out = rw (single s l (unless (permitted s 1) out)) d_code
d_shown Birth s l h out = absurd (true_false refl out)
d_shown Expiry s l h out = absurd (true_false refl out)
d_shown Raw s l h out = absurd (true_false h refl)
d_shown NotD s l h out = absurd (true_false refl out)

-- ---- the value of the witness
abbrev value_at : Rule → Rule → ℕ → List ℕ
value_at i o n = run (cond (eqb (number_of o) 7) 0x44 (first_of i)) (cond (eqb (number_of o) 7) 0x44 (rest_of i)) (n - 1)

shown_by : (i o : Rule) (s : ℕ) → Formed i s → Plain o → rule_in s i o ≡ false → Shown i o (run (first_of i) (rest_of i) (shortest_of s - 1))
shown_by i o s h n out = record { inner = (chosen i s h).taken; outer = not_taken i o s h n out }

shown : (i o : Rule) (s : ℕ) → Least s (shortest_of s) → Formed i s → (o ≡ Raw → ⊥) → rule_in s i o ≡ false → Shown i o (value_at i o (shortest_of s))
shown i Digits s l h n out = shown_by i Digits s h (n, λ e. absurd (let z : ◌≡◌ {A = ℕ} 0 1 = cc in omega arith)) out
shown i Text s l h n out = shown_by i Text s h (n, λ e. absurd (let z : ◌≡◌ {A = ℕ} 0 1 = cc in omega arith)) out
shown i Lead s l h n out = shown_by i Lead s h (n, λ e. absurd (let z : ◌≡◌ {A = ℕ} 0 1 = cc in omega arith)) out
shown i Code s l h n out = shown_by i Code s h (n, λ e. absurd (let z : ◌≡◌ {A = ℕ} 0 1 = cc in omega arith)) out
shown i Birth s l h n out = shown_by i Birth s h (n, λ e. absurd (let z : ◌≡◌ {A = ℕ} 0 1 = cc in omega arith)) out
shown i Expiry s l h n out = shown_by i Expiry s h (n, λ e. absurd (let z : ◌≡◌ {A = ℕ} 0 1 = cc in omega arith)) out
shown i Raw s l h n out = absurd (n refl)
shown i NotD s l h n out = d_shown i s l h out

not_raw : (rule : Rule) (s : ℕ) → Formed rule s → rule ≡ Raw → ⊥
not_raw rule s h e = true_false (rw e at h) refl

right_length : (s n f r : ℕ) → permitted s n ≡ true → permitted s (length (run f r (n - 1))) ≡ true
right_length s zero f r p = absurd (true_false p (never_0 s))
right_length s (suc n) f r p =
    let e : suc (length (replicate (suc n - 1) r)) ≡ suc n = ap suc (length-replicate (suc n - 1) r) ∙ omega arith in
    subst (λ (k : ℕ). permitted s k ≡ true) (sym e) p

least_of : (s : ℕ) → set_formed s ≡ true → Least s (shortest_of s)
least_of s h = let w : Within28 s = set_within s h in shortest_least s w.some w.even (omega (arith, w.small))

-- a rule that is not within another of well-formed rows: the witness shows it
pub witnessed : (last : Bool) (i o : Row) → row_formed last i ≡ true → row_formed last o ≡ true → rule_in i.lengths i.rule o.rule ≡ false
    → Against i o (value_of (witness_of i o))
unfolding witness_of numbers_in
witnessed true i o p q out =
    let e : rule_in i.lengths i.rule o.rule ≡ true = rw ((last_formed i p).rule, (last_formed o q).rule) in
    absurd (true_false e out)
witnessed false i o p q out =
    let l : Least i.lengths (shortest_of i.lengths) = least_of i.lengths (and_left (set_formed i.lengths) (by_rule i.rule true (eqb i.lengths (only 8)) (eqb i.lengths (only 4)) false) p) in
    let s : Shown i.rule o.rule (value_at i.rule o.rule (shortest_of i.lengths)) =
    shown i.rule o.rule i.lengths l (and_right (set_formed i.lengths) (by_rule i.rule true (eqb i.lengths (only 8)) (eqb i.lengths (only 4)) false) p) (not_raw o.rule o.lengths (and_right (set_formed o.lengths) (by_rule o.rule true (eqb o.lengths (only 8)) (eqb o.lengths (only 4)) false) q)) out in
    record {
      permitted =
          right_length i.lengths (shortest_of i.lengths) (cond (eqb (number_of o.rule) 7) 0x44 (first_of i.rule))
          (cond (eqb (number_of o.rule) 7) 0x44 (rest_of i.rule)) l.member;
      inner = s.inner;
      outer = s.outer;
    }
