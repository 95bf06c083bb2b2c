-- The edition of a lent table, and what is refused of it.
use Rattle.std.specs.Prelude.{ℕ, List}
use Rattle.edition.specs.Rows.{formed_of}
use Rattle.card.specs.Refusals.{bad_row}
use Rattle.wire_tables.specs.Tables.{lent_edition}
use Rattle.shipped_tables.specs.declared.Lent.{Lent}

-- 2 where the edition is not well formed; a table of another size has no good row
abbrev pub lent_table : List ℕ → Lent
lent_table table = record { edition = lent_edition table; refusal = bad_row (formed_of (lent_edition table)) }
