-- A table comes back from its text: line by line, each row is stored where it was. Assumes nothing.
use Prim.Native.Nat.{ℕ, suc, ◌+◌, ◌^◌, ◌<◌}
use native.Mathlib.Omega.{arith}
use borrow.Author.Tests.{le-ltb}
use mathlib.Core.Path.{◌≡◌, refl, ◌∙◌}
use mathlib.Core.List.{List, [], ◌∷◌, ◌++◌, append_assoc}
use lib.ListN.{length, length-append, get_or, replicate}
use lib.Seq.{set_at}
use Rattle.edition.specs.declared.Row.{Row}
use Rattle.edition.specs.Rows.{no_row}
use Rattle.table_text.specs.Texts.{row_text, rows_text, head_text, table_text}
use Rattle.table_take.specs.declared.Taking.{Taking}
use Rattle.table_take.specs.Splitting.{lines}
use Rattle.table_take.specs.Taking.{taking, with_line, finished, taken_from, taken}
use Rattle.table_take.specs.Backs.{took_all, TextBack}
use Rattle.table_take.proofs.Signs.{line_flat}
use Rattle.table_take.proofs.RowsBack.{row_line, row_text_lem, row_flat, with_row, head_line, head_text_lem, head_flat, with_head}

lines_none : lines [] ≡ []
unfolding lines
lines_none = refl

-- the lines of what begins with the line of a row, or with the first line
row_lines : (k : ℕ) (r : Row) → k < 17 → r.lengths < 2 ^ 32 → (rest : List ℕ) → lines (row_text k r ++ rest) ≡ row_line k r ∷ lines rest
row_lines k r h s rest = rw (row_text_lem k r, append_assoc (row_line k r) (0x0A ∷ []) rest) (line_flat (row_flat k r h s) rest)

head_lines : (number : ℕ) → number < 256 → (rest : List ℕ) → lines (head_text number ++ rest) ≡ head_line number ∷ lines rest
head_lines number h rest = rw (head_text_lem number, append_assoc (head_line number) (0x0A ∷ []) rest) (line_flat (head_flat number h) rest)

taken_cons : (t : Taking) (n : ℕ) (l : List ℕ) (ls : List (List ℕ)) → taken_from t n (l ∷ ls) ≡ taken_from (with_line t n l) (suc n) ls
unfolding taken_from
taken_cons t n l ls = refl

taken_none : (t : Taking) (n : ℕ) → taken_from t n [] ≡ finished t n
unfolding taken_from
taken_none t n = refl

all_told : (k number n : ℕ) (rows : List Row) → k ≡ 17 → finished (taking 0 0 (k + 1) number rows) n ≡ took_all (record { rows = rows; number = number })
unfolding finished
all_told k number n rows e = rw (le-ltb (k + 1) 18 (omega arith))

rows_cons : (k : ℕ) (r : Row) (rs : List Row) → rows_text k (r ∷ rs) ≡ row_text k r ++ rows_text (suc k) rs
unfolding rows_text
rows_cons k r rs = refl

rows_none : (k : ℕ) → rows_text k [] ≡ []
unfolding rows_text
rows_none k = refl

rows_back : (rs done : List Row) (k n number : ℕ) → length done ≡ k → k + length rs ≡ 17 → ((j : ℕ) → (get_or rs j no_row).lengths < 2 ^ 32)
    → taken_from (taking 0 0 (k + 1) number (done ++ replicate (length rs) no_row)) n (lines (rows_text k rs)) ≡ took_all (record { rows = done ++ rs; number = number })
rows_back [] done k n number e f s = rw (rows_none k, lines_none, taken_none) (all_told k number n (done ++ []) (omega arith))
rows_back (r ∷ rs) done k n number e f s =
    let h : k < 17 = omega arith in
    let due : k + 1 + 1 ≡ suc k + 1 = omega arith in
    let long : length (done ++ (r ∷ [])) ≡ suc k = length-append done (r ∷ []) ∙ omega arith in
    let rest = rows_back rs (done ++ (r ∷ [])) (suc k) (suc n) number long (omega arith) (λ j. s (suc j)) in
    rw (
      rows_cons k r rs,
      row_lines k r h (s 0),
      taken_cons,
      with_row k n number (done ++ (no_row ∷ replicate (length rs) no_row)) r h (s 0),
      set_at done no_row (replicate (length rs) no_row) r k e,
      due,
    )
    (rw (append_assoc done (r ∷ []) (replicate (length rs) no_row), append_assoc done (r ∷ []) rs) at rest)

pub text_back : TextBack
unfolding taken table_text
text_back e held =
    let rest = rows_back e.rows [] 0 2 e.number refl (omega (arith, held.rows)) held.sets in
    rw (head_lines e.number held.number, taken_cons, with_head e.number held.number) (rw held.rows at rest)
