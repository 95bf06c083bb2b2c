-- What is left of the lines of a table from row k on. Assumes nothing.
use Prim.Native.Nat.{ℕ, ◌+◌, ◌≤◌, ◌<◌}
use native.Mathlib.Numerals.{add-one}
use mathlib.Core.Path.{◌≡◌}
use mathlib.Core.List.{List, [], ◌++◌}
use lib.ListN.{length, get_or, drop, drop_of_length-le}
use lib.Seq.{drop-cons}
use Rattle.edition.specs.declared.Row.{Row}
use Rattle.edition.specs.Rows.{no_row}
use Rattle.table_text.specs.Texts.{row_text, rows_text}

pub rows_next : (rows : List Row) (k : ℕ) → k < length rows → rows_text k (drop k rows) ≡ row_text k (get_or rows k no_row) ++ rows_text (k + 1) (drop (k + 1) rows)
unfolding rows_text
rows_next rows k h = rw (add-one, drop-cons rows k no_row h)

pub rows_end : (rows : List Row) (k : ℕ) → length rows ≤ k → rows_text k (drop k rows) ≡ []
unfolding rows_text
rows_end rows k h = rw (drop_of_length-le rows h)
