-- The decision of nesting, on tables.
use Rattle.std.specs.Prelude.{ℕ, cond, List, eqb}
use Rattle.edition.specs.Rows.{tag_of}
use Rattle.card.specs.Refusals.{refuse}
use Rattle.nesting.specs.declared.Nesting.{Nesting}
use Rattle.nesting.specs.Decision.{nesting_of}
use Rattle.wire_tables.specs.Tables.{lent_edition}
use Rattle.wire.specs.Answers.{valued}

-- a table of another size is no well-formed edition
unfoldable pub tables_nesting : List ℕ → List ℕ → Nesting
tables_nesting inner outer = nesting_of (lent_edition inner) (lent_edition outer)

-- number 0, since nothing is refused; the clause as the place, and the tag of the row, 0 where no row is told; the value 1 nested, 0 not
unfoldable pub packed_nesting : Nesting → ℕ
packed_nesting n = valued (refuse 0 n.clause (tag_of n.row)) (cond (eqb n.clause 0) 1 0)
