-- `rows::put_rows` meets its contract. The invariant: what is left to put, from the next row on, makes the rows. Assumes nothing.
use mathlib.Core.Path.{refl}
use native.Mathlib.Omega.{arith}
use Rattle.edition.specs.Rows.{no_row}
use Rattle.ground.proofs.Puts.{left_start, left_next, left_end}
use Rattle.ground.proofs.Pieces.{joined_next, joined_end}
use Rattle.wire_tables.specs.Tables.{row_bytes}
use Rattle.wire_tables.proofs.put_rows.Goals as goal

pub loop-row-init : goal.loop-row-init
loop-row-init c = (refl, left_start _ _ _)

pub loop-row-preserved : goal.loop-row-preserved
unfolding row_bytes
loop-row-preserved c =
    let l = c.loop-row in
    (omega (arith, c.put_row-place.ensures.place), left_next l.invariant.1 _ _ (joined_next row_bytes c.args.edition.rows l.row-index no_row (omega arith)) c.put_row-place.ensures)

pub returns : goal.returns
returns c =
    let l = c.loop-row in
    record { put = left_end l.invariant.1 (joined_end row_bytes c.args.edition.rows l.row-index (omega arith)); value = omega arith }
