-- The rows one after the other. Assumes nothing.
use Prim.Native.Nat.{ℕ, ◌+◌, ◌<◌}
use native.Mathlib.Numerals.{add-one}
use mathlib.Core.Path.{◌≡◌}
use mathlib.Core.Bool.{true, false}
use mathlib.Core.List.{List}
use lib.Dec.{eqb}
use lib.ListN.{length, drop, get_or}
use lib.Seq.{drop-cons, drop-length}
use Rattle.edition.specs.declared.Row.{Row}
use Rattle.edition.specs.Rows.{no_row}
use Rattle.report.specs.Clauses.{clause_of, told, report_from}

-- c is the first clause that fails of row k
module _ (rs : List Row) (k : ℕ) where
  abbrev Clause : ℕ → Type 0
  Clause c = c ≡ clause_of (eqb k 16) (get_or rs k no_row)

  pub rows_pass : k < length rs → (c : ℕ) → Clause c → eqb c 0 ≡ true → report_from (k + 1) (drop (k + 1) rs) ≡ report_from k (drop k rs)
  unfolding report_from
  rows_pass h c e z = rw (add-one, drop-cons rs k no_row h, ← e, z)

  pub rows_stop : k < length rs → (c : ℕ) → Clause c → eqb c 0 ≡ false → told c k ≡ report_from k (drop k rs)
  unfolding report_from
  rows_stop h c e z = rw (drop-cons rs k no_row h, ← e, z)

  pub rows_end : k ≡ length rs → report_from k (drop k rs) ≡ told 0 17
  unfolding report_from
  rows_end h = rw (h, drop-length)
