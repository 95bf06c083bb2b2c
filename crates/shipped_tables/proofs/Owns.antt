-- The bytes that a well-formed edition is written as say that edition, and nothing is refused of it. Assumes nothing.
use Prim.Native.Nat.{ℕ}
use mathlib.Core.Path.{◌≡◌, refl, ap, ◌∙◌}
use mathlib.Core.Bool.{true}
use mathlib.Core.List.{List}
use lib.ListN.{length}
use Rattle.ground.specs.Lists.{same_list}
use Rattle.ground.specs.Pieces.{joined}
use Rattle.ground.proofs.Lists.{same_equal}
use Rattle.edition.specs.declared.Edition.{Edition}
use Rattle.edition.specs.declared.Formed.TheVariants.{Well}
use Rattle.edition.specs.Rows.{formed_from, formed_of}
use Rattle.edition.specs.Tables.{table, terminal, issue}
use Rattle.card.specs.Refusals.{none, bad_row}
use Rattle.wire_tables.specs.Tables.{lent_edition, row_bytes, table_bytes}
use Rattle.wire_tables.proofs.Sizes.{lent_edition_lem}
use Rattle.wire_tables.proofs.EditionsBack.{edition_back}
use Rattle.shipped_tables.specs.Lending.{lent_table}

-- what an edition must be for that
pub record Shipped (e : Edition) : Type 0 where
  pub rows : length e.rows ≡ 17
  pub size : length (table_bytes e) ≡ 103
  pub formed : formed_of e ≡ Well

pub own_table : (e : Edition) (bytes : List ℕ) → Shipped e → same_list bytes (table_bytes e) ≡ true → record { edition = e; refusal = none } ≡ lent_table bytes
unfolding bad_row
own_table e bytes w same =
    let said : lent_edition bytes ≡ e = ap lent_edition (same_equal bytes (table_bytes e) same) ∙ lent_edition_lem (table_bytes e) w.size ∙ edition_back e w.rows in
    rw (said, w.formed)

pub terminal_shipped : Shipped terminal
unfolding terminal table table_bytes joined row_bytes formed_of formed_from
terminal_shipped = record { rows = refl; size = refl; formed = refl }

pub issue_shipped : Shipped issue
unfolding issue table table_bytes joined row_bytes formed_of formed_from
issue_shipped = record { rows = refl; size = refl; formed = refl }
