-- The clauses of a well-formed edition, numbered in document 01's order, and the first that fails.
use Rattle.std.specs.Prelude.{ℕ, suc, ◌%◌, ◌^◌, Bool, true, false, cond, not, ◌&&◌, ◌||◌, List, [], ◌∷◌, eqb, ltb}
use Rattle.edition.specs.declared.Row.{Row}
use Rattle.edition.specs.declared.Edition.{Edition}
use Rattle.edition.specs.declared.Formed.{Formed}
use Rattle.edition.specs.declared.Formed.TheVariants.{Well, Bad, Unnumbered}
use Rattle.edition.specs.Sets.{only}
use Rattle.edition.specs.Rows.{by_rule}
use Rattle.report.specs.declared.Finding.{Finding}

-- 1 each set is non-empty, 2 and within 1 to 28; 3 row 8E is required, 4 and has {1}
abbrev pub set_clauses : Bool → Row → List Bool → List Bool
set_clauses last r more =
    ltb 0 r.lengths
    ∷ (eqb (r.lengths % 2) 0 && ltb r.lengths (2 ^ 29))
    ∷ (not last || r.required)
    ∷ (not last || eqb r.lengths (only 1))
    ∷ more

-- 5 row 8E is raw, 6 and no other row is; 7 a birth row has {8}, 8 an expiry row {4}
abbrev pub rule_clauses : Bool → Row → List Bool
rule_clauses last r =
    (not last || by_rule r.rule false false false true)
    ∷ (last || by_rule r.rule true true true false)
    ∷ by_rule r.rule true (eqb r.lengths (only 8)) true true
    ∷ by_rule r.rule true true (eqb r.lengths (only 4)) true
    ∷ []

-- the number of the first that fails, where they are numbered from n on; 0 where none does
unfoldable pub first_failing : ℕ → List Bool → ℕ
first_failing n [] = 0
first_failing n (holds ∷ more) = cond holds (first_failing (suc n) more) n

-- of a row; the last is row 8E
unfoldable pub clause_of : Bool → Row → ℕ
clause_of last r = first_failing 1 (set_clauses last r (rule_clauses last r))

abbrev pub told : ℕ → ℕ → Finding
told clause row = record { clause = clause; row = row }

-- the first row of which a clause fails, of the rows from number k on; 17, past the last, where there is none
unfoldable pub report_from : ℕ → List Row → Finding
report_from k [] = told 0 17
report_from k (r ∷ rs) = cond (eqb (clause_of (eqb k 16) r) 0) (report_from (suc k) rs) (told (clause_of (eqb k 16) r) k)

-- 9 the edition's number is not 0, which is told only if all its rows are right
unfoldable pub with_number : ℕ → Finding → Finding
with_number number r = cond (eqb r.clause 0 && eqb number 0) (told 9 17) r

unfoldable pub report_of : Edition → Finding
report_of e = with_number e.number (report_from 0 e.rows)

-- what a report says of the edition in the words of `formed`
abbrev pub formed_by : Finding → Formed
formed_by r = cond (eqb r.clause 0) Well (cond (eqb r.clause 9) Unnumbered (Bad r.row))
