-- A report says what `formed` says: no clause fails exactly of a row that is well formed, and so the first row is the same. Assumes nothing.
use Prim.Native.Nat.{ℕ, suc, ◌%◌, ◌^◌}
use native.Mathlib.Omega.{arith}
use mathlib.Core.Path.{◌≡◌, refl, sym, ap, ◌∙◌}
use mathlib.Core.Logic.{◌↔◌}
use mathlib.Core.Bool.{Bool, true, false, cond, not, ◌&&◌, ◌||◌}
use mathlib.Core.List.{List, [], ◌∷◌}
use lib.Dec.{eqb, ltb}
use borrow.Author.Tests.{eqb-true, eq-eqb}
use Rattle.rules.specs.declared.Rule.{Rule}
use Rattle.rules.specs.declared.Rule.TheVariants.{Digits, Text, Lead, Code, Birth, Expiry, Raw, NotD}
use Rattle.edition.specs.declared.Row.{Row}
use Rattle.edition.specs.declared.Edition.{Edition}
use Rattle.edition.specs.declared.Formed.{Formed}
use Rattle.edition.specs.declared.Formed.TheVariants.{Well, Bad, Unnumbered}
use Rattle.edition.specs.Sets.{only}
use Rattle.edition.specs.Rows.{by_rule, row_formed, formed_from, and_number, formed_of}
use Rattle.report.specs.declared.Finding.{Finding}
use Rattle.report.specs.Clauses.{first_failing, clause_of, told, report_from, with_number, report_of, formed_by}

-- ---- of a row, by its tests: a b c of the set; q required; x y z that the set is {1}, {8}, {4}
abbrev first : Rule → Bool → Bool → Bool → Bool → Bool → Bool → Bool → Bool → ℕ
first rule last a b c q x y z =
    first_failing 1
    (a
    ∷ (b && c)
    ∷ (not last || q)
    ∷ (not last || x)
    ∷ (not last || by_rule rule false false false true)
    ∷ (last || by_rule rule true true true false)
    ∷ by_rule rule true y true true
    ∷ by_rule rule true true z true
    ∷ [])

abbrev formed : Rule → Bool → Bool → Bool → Bool → Bool → Bool → Bool → Bool → Bool
formed rule last a b c q x y z = (a && b && c) && by_rule rule (not last) (not last && y) (not last && z) (last && q && x)

never : (rule : Rule) → false ≡ by_rule rule false false false false
never Digits = refl
never Text = refl
never Lead = refl
never Code = refl
never Birth = refl
never Expiry = refl
never Raw = refl
never NotD = refl

-- row 8E, required and of {1}: by its rule
last_rule : (rule : Rule) (y z : Bool) → eqb (first rule true true true true true true y z) 0 ≡ formed rule true true true true true true y z
unfolding first_failing
last_rule Digits y z = refl
last_rule Text y z = refl
last_rule Lead y z = refl
last_rule Code y z = refl
last_rule Birth y z = refl
last_rule Expiry y z = refl
last_rule Raw y z = refl
last_rule NotD y z = refl

-- another row with a set within 1 to 28: by its rule
other_rule : (rule : Rule) (q x y z : Bool) → eqb (first rule false true true true q x y z) 0 ≡ formed rule false true true true q x y z
unfolding first_failing
other_rule Digits q x y z = refl
other_rule Text q x y z = refl
other_rule Lead q x y z = refl
other_rule Code q x y z = refl
other_rule Birth q x true z = refl
other_rule Birth q x false z = refl
other_rule Expiry q x y true = refl
other_rule Expiry q x y false = refl
other_rule Raw q x y z = refl
other_rule NotD q x y z = refl

by_tests : (rule : Rule) (last a b c q x y z : Bool) → eqb (first rule last a b c q x y z) 0 ≡ formed rule last a b c q x y z
unfolding first_failing
by_tests rule last false b c q x y z = refl
by_tests rule last true false c q x y z = refl
by_tests rule last true true false q x y z = refl
by_tests rule true true true true false x y z = never rule
by_tests rule true true true true true false y z = never rule
by_tests rule true true true true true true y z = last_rule rule y z
by_tests rule false true true true q x y z = other_rule rule q x y z

-- no clause fails exactly of a row that is well formed
pub row_reported : (last : Bool) (r : Row) → eqb (clause_of last r) 0 ≡ row_formed last r
unfolding clause_of
row_reported last r =
    by_tests r.rule last (ltb 0 r.lengths) (eqb (r.lengths % 2) 0) (ltb r.lengths (2 ^ 29)) r.required
    (eqb r.lengths (only 1)) (eqb r.lengths (only 8)) (eqb r.lengths (only 4))

-- of a row no clause past the eighth is told
eight : (a b c d e f g h : Bool) → eqb (first_failing 1 (a ∷ b ∷ c ∷ d ∷ e ∷ f ∷ g ∷ h ∷ [])) 9 ≡ false
unfolding first_failing
eight false b c d e f g h = refl
eight true false c d e f g h = refl
eight true true false d e f g h = refl
eight true true true false e f g h = refl
eight true true true true false f g h = refl
eight true true true true true false g h = refl
eight true true true true true true false h = refl
eight true true true true true true true false = refl
eight true true true true true true true true = refl

not_nine : (last : Bool) (r : Row) → eqb (clause_of last r) 9 ≡ false
unfolding clause_of
not_nine last r =
    eight (ltb 0 r.lengths) (eqb (r.lengths % 2) 0 && ltb r.lengths (2 ^ 29)) (not last || r.required) (not last || eqb r.lengths (only 1))
    (not last || by_rule r.rule false false false true) (last || by_rule r.rule true true true false)
    (by_rule r.rule true (eqb r.lengths (only 8)) true true) (by_rule r.rule true true (eqb r.lengths (only 4)) true)

-- ---- of the rows
rows_step : (k c : ℕ) (f : Formed) (s : Finding) → eqb c 9 ≡ false → f ≡ formed_by s → cond (eqb c 0) f (Bad k) ≡ formed_by (cond (eqb c 0) s (told c k))
rows_step k c f s n h = go (eqb c 0) refl
  where
    go : (q : Bool) → eqb c 0 ≡ q → cond q f (Bad k) ≡ formed_by (cond q s (told c k))
    go true e = h
    go false e = rw (e, n)

rows_reported : (k : ℕ) (rs : List Row) → formed_from k rs ≡ formed_by (report_from k rs)
unfolding formed_from report_from
rows_reported k [] = refl
rows_reported k (r ∷ rs) =
    rw (← row_reported (eqb k 16) r)
    (rows_step k (clause_of (eqb k 16) r) (formed_from (suc k) rs) (report_from (suc k) rs) (not_nine (eqb k 16) r) (rows_reported (suc k) rs))

-- ---- of an edition
number_zero : (r : Finding) (t : Bool) → eqb r.clause 0 ≡ true → cond t Unnumbered Well ≡ formed_by (cond t (told 9 17) r)
number_zero r true e = refl
number_zero r false e = rw e

number_step : (n : ℕ) (r : Finding) → and_number n (formed_by r) ≡ formed_by (with_number n r)
unfolding with_number
number_step n r = go (eqb r.clause 0) (eqb r.clause 9) refl refl
  where
    go : (p q : Bool) → eqb r.clause 0 ≡ p → eqb r.clause 9 ≡ q
        → and_number n (cond p Well (cond q Unnumbered (Bad r.row))) ≡ formed_by (cond (p && eqb n 0) (told 9 17) r)
    go true q e f = number_zero r (eqb n 0) e
    go false true e f = rw (e, f)
    go false false e f = rw (e, f)

-- what is told of an edition is what `formed` tells: well formed, the same first bad row, or the number
pub reported : (e : Edition) → formed_of e ≡ formed_by (report_of e)
unfolding formed_of report_of
reported e = ap (and_number e.number) (rows_reported 0 e.rows) ∙ number_step e.number (report_from 0 e.rows)

well_zero : (r : Finding) → formed_by r ≡ Well → r.clause ≡ 0
well_zero r h = go (eqb r.clause 0) (eqb r.clause 9) refl h
  where
    go : (p q : Bool) → eqb r.clause 0 ≡ p → cond p Well (cond q Unnumbered (Bad r.row)) ≡ Well → r.clause ≡ 0
    go true q e h = eqb-true r.clause 0 e
    go false true e h = absurd (let z : ◌≡◌ {A = ℕ} 0 1 = cc in omega arith)
    go false false e h = absurd (let z : ◌≡◌ {A = ℕ} 0 1 = cc in omega arith)

-- no clause is told exactly where the edition is well formed
pub report_well : (e : Edition) → ((report_of e).clause ≡ 0) ↔ (formed_of e ≡ Well)
report_well e = (λ h. reported e ∙ zero-well (report_of e) h, λ h. well_zero (report_of e) (sym (reported e) ∙ h))
  where
    zero-well : (r : Finding) → r.clause ≡ 0 → formed_by r ≡ Well
    zero-well r h = rw (eq-eqb r.clause 0 h)

bad_row : (r : Finding) (k : ℕ) → formed_by r ≡ Bad k → r.row ≡ k
bad_row r k h = go (eqb r.clause 0) (eqb r.clause 9) h
  where
    go : (p q : Bool) → cond p Well (cond q Unnumbered (Bad r.row)) ≡ Bad k → r.row ≡ k
    go true q h = absurd (let z : ◌≡◌ {A = ℕ} 0 1 = cc in omega arith)
    go false true h = absurd (let z : ◌≡◌ {A = ℕ} 0 1 = cc in omega arith)
    go false false h = cc

-- the row told is the first bad one
pub report_row : (e : Edition) (k : ℕ) → formed_of e ≡ Bad k → (report_of e).row ≡ k
report_row e k h = bad_row (report_of e) k (sym (reported e) ∙ h)
