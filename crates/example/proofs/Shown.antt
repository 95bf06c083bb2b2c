-- At the row told: a length of the narrowed row makes a value that meets the inner row and shows the clause; and a value that does both has such a length.
-- A run of one byte is taken or not whatever its length, but for the rules that have one length, and for the single D. Assumes nothing.
use Prim.Native.Nat.{ℕ, zero, suc, ◌-◌, ◌<◌, ◌≤◌}
use native.Mathlib.Omega.{arith}
use mathlib.Core.Path.{◌≡◌, refl, sym, ap, ◌∙◌, subst}
use mathlib.Core.Bool.{Bool, true, false, cond}
use mathlib.Core.List.{List, [], ◌∷◌}
use lib.Dec.{eqb}
use lib.Pow.{pow_pos}
use lib.ListN.{length, replicate}
use borrow.Author.Tests.{eqb-true, eqb-false, ne_eqb}
use Rattle.ground.specs.Lists.{leading, among}
use Rattle.ground.proofs.Lists.{true_false}
use Rattle.rules.specs.declared.Rule.{Rule}
use Rattle.rules.specs.declared.Rule.TheVariants.{Digits, Text, Lead, Code, Birth, Expiry, Raw, NotD}
use Rattle.std.specs.Prelude.{Ok}
use Rattle.rules.specs.Values.{is_text, takes, holds, judged}
use Rattle.rules.proofs.Verdicts.{taken_means, means_taken, not_d_means}
use Rattle.edition.specs.declared.Row.{Row}
use Rattle.edition.specs.Sets.{permitted, only, shortest_of}
use Rattle.edition.specs.Rows.{by_rule, row_formed}
use Rattle.edition.proofs.Sets.{Least, shortest_least, beyond}
use Rattle.edition.proofs.Rows.{Within28, row_within, permits_most}
use Rattle.nesting.specs.Decision.{number_of, witness_of, value_of}
use Rattle.nesting.specs.Answers.{Against, Shorter, Fails, a-length, a-value, asked}
use Rattle.card.specs.Rules.{RowMet}
use Rattle.choosing.specs.Choices.{will_do}
use Rattle.example.specs.Cards.{leaves_d, narrow, sample_for, value_for}
use Rattle.example.specs.Shows.{ShowsClause, lacks, not_taken, absent}
use Rattle.example.proofs.Lacking.{lacking_in, in_lacking}
use Rattle.example.proofs.Runs.{some, run_is, run_length, absent_is, run_in, only_8, only_4, only_1, first_of, rest_of, row_rule, most_28, run_met, plain_value, will_some, will_none}
use Rattle.example.proofs.Widest.{within_wide}

-- ---- a rule that has no length of its own takes a run of one length where it takes one of another
first_taken : (o : Rule) (f r m : ℕ) → judged o (f ∷ replicate m r) ≡ Ok tt → takes o f ≡ true
unfolding leading
first_taken o f r m h = go (takes o f) refl (taken_means o (f ∷ replicate m r) h).0
  where
    go : (q : Bool) → takes o f ≡ q → suc (length (replicate m r)) ≤ cond q (suc (leading (takes o) (replicate m r))) 0 → q ≡ true
    go true e l = refl
    go false e l = absurd (omega arith)

-- each rule goes on as it begins
goes_on : (i o : Rule) → takes o (first_of i) ≡ true → takes o (rest_of i) ≡ true
unfolding is_text among
goes_on Digits o t = t
goes_on Text o t = t
goes_on Lead o t = t
goes_on Code o t = t
goes_on Birth o t = t
goes_on Expiry Digits t = refl
goes_on Expiry Text t = refl
goes_on Expiry Lead t = refl
goes_on Expiry Code t = refl
goes_on Expiry Birth t = refl
goes_on Expiry Expiry t = refl
goes_on Expiry Raw t = refl
goes_on Expiry NotD t = refl
goes_on Raw o t = t
goes_on NotD o t = t

abbrev run_of : Rule → ℕ → List ℕ
run_of i m = first_of i ∷ replicate m (rest_of i)

-- where what the rule asks beyond its characters is asked of the first byte alone
as_long : (i o : Rule) (m n : ℕ) → (holds o (run_of i m) ≡ holds o (run_of i n)) → judged o (run_of i m) ≡ Ok tt → judged o (run_of i n) ≡ Ok tt
as_long i o m n e h =
    let t : takes o (first_of i) ≡ true = first_taken o (first_of i) (rest_of i) m h in
    means_taken o (run_of i n) (run_in (takes o) (first_of i) (rest_of i) n t (goes_on i o t)) (sym e ∙ (taken_means o (run_of i m) h).1)

-- a rule of rows that are well formed, of which each inner length is one, and that leaves no D out
any_length : (i o : Row) (m n : ℕ) → row_formed false i ≡ true → row_formed false o ≡ true → Shorter i o → leaves_d o ≡ false
    → permitted i.lengths m ≡ true → permitted i.lengths n ≡ true
    → judged o.rule (run_of i.rule (m - 1)) ≡ Ok tt → judged o.rule (run_of i.rule (n - 1)) ≡ Ok tt
unfolding holds
any_length i o m n f g s l p q h = go o.rule (row_rule o g) l h
  where
    in-set : (k : ℕ) → eqb o.lengths (only k) ≡ true → (x : ℕ) → permitted i.lengths x ≡ true → permitted (only k) x ≡ true
    in-set k r x t = subst (λ (y : ℕ). permitted y x ≡ true) (eqb-true o.lengths (only k) r) (s x t)

    one : (rule : Rule) (k : ℕ) → m ≡ k → n ≡ k → judged rule (run_of i.rule (m - 1)) ≡ Ok tt → judged rule (run_of i.rule (n - 1)) ≡ Ok tt
    one rule k a b h = subst (λ (x : ℕ). judged rule (run_of i.rule (x - 1)) ≡ Ok tt) (a ∙ sym b) h

    go : (rule : Rule) → by_rule rule true (eqb o.lengths (only 8)) (eqb o.lengths (only 4)) false ≡ true → eqb (number_of rule) 7 ≡ false
        → judged rule (run_of i.rule (m - 1)) ≡ Ok tt → judged rule (run_of i.rule (n - 1)) ≡ Ok tt
    go Digits r l h = as_long i.rule Digits (m - 1) (n - 1) refl h
    go Text r l h = as_long i.rule Text (m - 1) (n - 1) refl h
    go Lead r l h = as_long i.rule Lead (m - 1) (n - 1) refl h
    go Code r l h = as_long i.rule Code (m - 1) (n - 1) refl h
    go Birth r l h = one Birth 8 (only_8 m (most_28 i m f p) (in-set 8 r m p)) (only_8 n (most_28 i n f q) (in-set 8 r n q)) h
    go Expiry r l h = one Expiry 4 (only_4 m (most_28 i m f p) (in-set 4 r m p)) (only_4 n (most_28 i n f q) (in-set 4 r n q)) h
    go Raw r l h = absurd (true_false r refl)
    go NotD r l h = absurd (true_false refl l)

-- ---- the rule that leaves D out: a value that it does not take, of a row that is not the checksum's, is the single D
left_is : (rule : Rule) → eqb (number_of rule) 7 ≡ true → rule ≡ NotD
left_is Digits h = absurd (true_false h refl)
left_is Text h = absurd (true_false h refl)
left_is Lead h = absurd (true_false h refl)
left_is Code h = absurd (true_false h refl)
left_is Birth h = absurd (true_false h refl)
left_is Expiry h = absurd (true_false h refl)
left_is Raw h = absurd (true_false h refl)
left_is NotD h = refl

single : (i o : Row) (v : List ℕ) → row_formed false i ≡ true → leaves_d o ≡ true → permitted i.lengths (length v) ≡ true → judged i.rule v ≡ Ok tt
    → (judged o.rule v ≡ Ok tt → ⊥) → length v ≡ 1
single i o v f l p t h = go (eqb (length v) 1) refl
  where
    go : (q : Bool) → eqb (length v) 1 ≡ q → length v ≡ 1
    go true e = eqb-true (length v) 1 e
    go false e =
        let d : judged NotD v ≡ Ok tt = (not_d_means v).1 ((within_wide i f).takes v p t, λ s. eqb-false (length v) 1 e (ap length s)) in
        absurd (h (subst (λ (r : Rule). judged r v ≡ Ok tt) (sym (left_is o.rule l)) d))

-- the set of the length 1 permits no other, of any length
only_one : (n : ℕ) → permitted (only 1) n ≡ true → n ≡ 1
only_one n p = only_1 n (permits_most (only 1) n (omega arith) p) p

-- ---- the value where a value is to show it
first_value : (i o : Row) (n : ℕ) → leaves_d o ≡ false → 0 < n → n ≤ 28 → value_for 2 i o n ≡ run_of i.rule (n - 1)
unfolding value_for sample_for witness_of
first_value i o n e a b = rw e (run_is n (first_of i.rule) (rest_of i.rule) a b)

d_value : (i o : Row) → leaves_d o ≡ true → value_for 2 i o 1 ≡ 0x44 ∷ []
unfolding value_for sample_for witness_of
d_value i o e = rw e (run_is 1 0x44 0x44 (omega arith) (omega arith))

first_witness : (i o : Row) → leaves_d o ≡ false → value_of (witness_of i o) ≡ run_of i.rule (shortest_of i.lengths - 1)
unfolding witness_of
first_witness i o e = rw e

d_witness : (i o : Row) → leaves_d o ≡ true → value_of (witness_of i o) ≡ 0x44 ∷ replicate (shortest_of i.lengths - 1) 0x44
unfolding witness_of
d_witness i o e = rw e

one_d : (m : ℕ) → length {A = ℕ} (0x44 ∷ replicate m 0x44) ≡ 1 → ◌≡◌ {A = List ℕ} (0x44 ∷ replicate m 0x44) (0x44 ∷ [])
one_d zero e = refl
one_d (suc m) e = absurd (omega arith)

value_both : (i o : Row) (n : ℕ) → row_formed false i ≡ true → row_formed false o ≡ true → Shorter i o → Against i o (value_of (witness_of i o)) → will_do (narrow 2 i o) (suc n) ≡ true
    → RowMet i (value_for 2 i o (suc n)) × ShowsClause o 2 (value_for 2 i o (suc n))
unfolding narrow
value_both i o n f g s a h = go (leaves_d o) refl (will_some (narrow 2 i o) (suc n) h (omega arith))
  where
    go : (q : Bool) → leaves_d o ≡ q → permitted (cond q (only 1) i.lengths) (suc n) ≡ true → RowMet i (value_for 2 i o (suc n)) × ShowsClause o 2 (value_for 2 i o (suc n))
    go false e p =
        let l : Least i.lengths (shortest_of i.lengths) = let w : Within28 i.lengths = row_within false i f in shortest_least i.lengths w.some w.even (omega (arith, w.small)) in
        let no : judged o.rule (run_of i.rule (shortest_of i.lengths - 1)) ≡ Ok tt → ⊥ = subst (λ (v : List ℕ). judged o.rule v ≡ Ok tt → ⊥) (first_witness i o e) a.outer in
        subst (λ (v : List ℕ). RowMet i v × ShowsClause o 2 v) (sym (first_value i o (suc n) e (omega arith) (most_28 i (suc n) f p)))
        (run_met i (suc n) f p, not_taken (λ t. no (any_length i o (suc n) (shortest_of i.lengths) f g s e p l.member t)))
    go true e p =
        let m : suc n ≡ 1 = only_one (suc n) p in
        let w : value_of (witness_of i o) ≡ 0x44 ∷ [] = d_witness i o e ∙ one_d (shortest_of i.lengths - 1) (ap length (sym (d_witness i o e)) ∙ single i o (value_of (witness_of i o)) f e a.permitted a.inner a.outer) in
        let v : value_for 2 i o (suc n) ≡ 0x44 ∷ [] = ap (value_for 2 i o) m ∙ d_value i o e in
        subst (λ (v : List ℕ). RowMet i v × ShowsClause o 2 v) (w ∙ sym v) ((a.permitted, a.inner), not_taken a.outer)

-- ---- a length of the narrowed row: the value meets the inner row and shows the clause
pub told_both : (i o : Row) (c n : ℕ) → row_formed false i ≡ true → row_formed false o ≡ true → Fails i o c → will_do (narrow c i o) n ≡ true
    → RowMet i (value_for c i o n) × ShowsClause o c (value_for c i o n)
unfolding narrow
told_both i o c zero f g (a-length m p q) h = absurd (true_false refl (will_none (narrow 1 i o) h))
told_both i o c (suc n) f g (a-length m p q) h =
    let l = lacking_in i.lengths o.lengths (suc n) (will_some (narrow 1 i o) (suc n) h (omega arith)) in
    subst (λ (v : List ℕ). RowMet i v × ShowsClause o 1 v) (sym (plain_value 1 i o (suc n) refl (omega arith) (most_28 i (suc n) f l.0)))
    (run_met i (suc n) f l.0, lacks (subst (λ (k : ℕ). permitted o.lengths k ≡ false) (sym (run_length (suc n) (first_of i.rule) (rest_of i.rule) (omega arith))) l.1))
told_both i o c zero f g (a-value s a) h = absurd (true_false refl (will_none (narrow 2 i o) h))
told_both i o c (suc n) f g (a-value s a) h = value_both i o n f g s a h
told_both i o c zero f g (asked s t r q) h = subst (λ (v : List ℕ). RowMet i v × ShowsClause o 3 v) (sym (absent_is 3 i o)) (q, absent)
told_both i o c (suc n) f g (asked s t r q) h = absurd (true_false (will_some (narrow 3 i o) (suc n) h (omega arith)) (beyond 0 (suc n) (pow_pos (suc n))))

-- and a value that does both has such a length
pub told_will : (i o : Row) (c : ℕ) (v : List ℕ) → row_formed false i ≡ true → RowMet i v → ShowsClause o c v → will_do (narrow c i o) (length v) ≡ true
unfolding narrow will_do permitted
told_will i o c (b ∷ v) f m (lacks h) = rw (ne_eqb (suc (length v)) 0 (omega arith)) (in_lacking i.lengths o.lengths (suc (length v)) m.0 h)
told_will i o c (b ∷ v) f m (not_taken h) = go (leaves_d o) refl
  where
    go : (q : Bool) → leaves_d o ≡ q → cond (eqb (suc (length v)) 0) false (permitted (cond q (only 1) i.lengths) (suc (length v))) ≡ true
    go false e = rw (ne_eqb (suc (length v)) 0 (omega arith)) m.0
    go true e = rw (single i o (b ∷ v) f e m.0 m.1 h)
told_will i o c [] f m absent = refl

-- some length will do
pub told_some : (i o : Row) (c : ℕ) → row_formed false i ≡ true → Fails i o c → (n : ℕ) × (n ≤ 28) × (will_do (narrow c i o) n ≡ true)
told_some i o c f (a-length n p q) =
    let v : List ℕ = first_of i.rule ∷ replicate (n - 1) (rest_of i.rule) in
    let l : length v ≡ n = run_length n (first_of i.rule) (rest_of i.rule) (some i.lengths n p) in
    (n, most_28 i n f p, subst (λ (k : ℕ). will_do (narrow 1 i o) k ≡ true) l (told_will i o 1 v f (run_met i n f p) (lacks (subst (λ (k : ℕ). permitted o.lengths k ≡ false) (sym l) q))))
told_some i o c f (a-value s a) =
    let v : List ℕ = value_of (witness_of i o) in
    (length v, most_28 i (length v) f a.permitted, told_will i o 2 v f (a.permitted, a.inner) (not_taken a.outer))
told_some i o c f (asked s t r q) = (0, omega arith, told_will i o 3 [] f q absent)

-- a value that shows the clause does not meet the outer's row
pub not_met : (o : Row) (c : ℕ) (v : List ℕ) → (c ≡ 3 → o.required ≡ true) → ShowsClause o c v → RowMet o v → ⊥
not_met o c (b ∷ v) r (lacks h) m = true_false m.0 h
not_met o c (b ∷ v) r (not_taken h) m = h m.1
not_met o c [] r absent m = true_false (r refl) m

pub asks : (i o : Row) (c : ℕ) → Fails i o c → c ≡ 3 → o.required ≡ true
asks i o c (a-length n p q) e = absurd (omega arith)
asks i o c (a-value s a) e = absurd (omega arith)
asks i o c (asked s t r q) e = r
