-- A table comes back from its text.
use Rattle.std.specs.Prelude.{ℕ, ◌^◌, ◌<◌, ◌≡◌, length, get_or, Ok}
use Rattle.edition.specs.declared.Edition.{Edition}
use Rattle.edition.specs.Rows.{no_row}
use Rattle.table_text.specs.Texts.{table_text}
use Rattle.table_take.specs.Taking.{Taken, taken}

-- an edition as a machine holds it: seventeen rows, a number of eight bits, sets of 32 bits
pub record Held (e : Edition) : Type 0 where
  pub rows : length e.rows ≡ 17
  pub number : e.number < 256
  pub sets : (k : ℕ) → (get_or e.rows k no_row).lengths < 2 ^ 32

-- nothing is wrong, and the edition is this one
abbrev pub took_all : Edition → Taken
took_all e = Ok e

abbrev pub TextBack : Type 0
TextBack = (e : Edition) → Held e → taken (table_text e) ≡ took_all e
