-- A table from its text: `edition` and its number, then the rows in card order; lines that are blank or start with # are skipped. What is wrong,
-- beyond the words of a line: 11 the text goes on behind the last row, 12 it ends before it.
use Rattle.std.specs.Prelude.{ℕ, suc, ◌+◌, ◌-◌, Bool, cond, List, [], ◌∷◌, eqb, ltb, get_or, set, replicate, Result, Ok, Err}
use Rattle.rules.specs.declared.Rule.{Rule}
use Rattle.rules.specs.declared.Rule.TheVariants.{Digits, Text, Lead, Code, Birth, Expiry, Raw, NotD}
use Rattle.edition.specs.declared.Row.{Row}
use Rattle.edition.specs.declared.Edition.{Edition}
use Rattle.edition.specs.Rows.{no_row}
use Rattle.table_take.specs.declared.Kind.TheVariants.{Blanks}
use Rattle.table_take.specs.declared.Fields.{Fields}
use Rattle.table_take.specs.declared.Taking.{Taking}
use Rattle.table_take.specs.declared.Mistake.{Mistake}
use Rattle.table_take.specs.Splitting.{behind_kind, lines}
use Rattle.table_take.specs.Words.{line_taken}

-- the rules before the last, in the order of their words
abbrev pub rules : List Rule
rules = Digits ∷ Text ∷ Lead ∷ Code ∷ Birth ∷ Expiry ∷ Raw ∷ []

abbrev pub rule_by : ℕ → Rule
rule_by n = get_or rules n NotD

-- a line that is blank, or whose first sign is #
unfoldable pub is_remark : List ℕ → Bool
is_remark line = eqb (get_or line (behind_kind Blanks line 0) 0x23) 0x23

abbrev pub taking : ℕ → ℕ → ℕ → ℕ → List Row → Taking
taking wrong line due number rows = record { wrong = wrong; line = line; due = due; number = number; rows = rows }

abbrev pub no_rows : List Row
no_rows = replicate 17 no_row

abbrev pub refused : Taking → ℕ → ℕ → Taking
refused t wrong line = taking wrong line t.due t.number t.rows

abbrev pub row_told : Fields → Row
row_told f = record { required = f.required; rule = rule_by f.rule; lengths = f.lengths }

-- what a line says is kept: the number, or the row that was due
unfoldable pub stored : Taking → Fields → Taking
stored t f =
    cond (eqb t.due 0) (taking 0 0 1 f.number t.rows)
    (taking 0 0 (t.due + 1) t.number (set t.rows (t.due - 1) (row_told f)))

-- the n-th line
unfoldable pub with_line : Taking → ℕ → List ℕ → Taking
with_line t n line =
    cond (eqb t.wrong 0)
    (cond (is_remark line) t
    (cond (ltb 17 t.due) (refused t 11 n)
    (cond (eqb (line_taken t.due line).wrong 0) (stored t (line_taken t.due line)) (refused t (line_taken t.due line).wrong n))))
    t

abbrev pub Taken : Type 0
Taken = Result Edition Mistake

abbrev pub not_taken : ℕ → ℕ → ℕ → Taken
not_taken wrong line due = Err (record { wrong = wrong; line = line; due = due })

unfoldable pub finished : Taking → ℕ → Taken
finished t n =
    cond (eqb t.wrong 0)
    (cond (ltb t.due 18) (not_taken 12 n t.due) (Ok (record { rows = t.rows; number = t.number })))
    (not_taken t.wrong t.line t.due)

-- the lines from number n on
unfoldable pub taken_from : Taking → ℕ → List (List ℕ) → Taken
taken_from t n [] = finished t n
taken_from t n (l ∷ ls) = taken_from (with_line t n l) (suc n) ls

unfoldable pub taken : List ℕ → Taken
taken text = taken_from (taking 0 0 0 0 no_rows) 1 (lines text)
