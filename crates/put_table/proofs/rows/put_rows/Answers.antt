-- `rows::put_rows` meets its contract. The invariant: what is left to put, from row k on, makes the lines of all rows. Assumes nothing.
use mathlib.Core.Path.{◌≡◌}
use Prim.Native.Nat.{◌<◌}
use native.Mathlib.Omega.{arith}
use lib.ListN.{length}
use Rattle.ground.proofs.Puts.{left_start, left_next, left_end}
use Rattle.table_text.proofs.RowLaws.{rows_next, rows_end}
use Rattle.put_table.proofs.rows.put_rows.Goals as goal

pub loop-k-init : goal.loop-k-init
loop-k-init c = (omega arith, left_start _ _ _)

pub put_row-place-requires : goal.put_row-place-requires
put_row-place-requires c = (omega arith, omega arith)

pub loop-k-preserved : goal.loop-k-preserved
loop-k-preserved c =
    let seventeen : length c.args.edition.rows ≡ 17 = omega arith in
    let l = c.loop-k in
    let h : l.k < length c.args.edition.rows = omega (arith, seventeen) in
    (omega arith, left_next l.invariant.1 _ _ (rows_next c.args.edition.rows l.k h) c.put_row-place.ensures.put)

pub returns : goal.returns
returns c =
    let seventeen : length c.args.edition.rows ≡ 17 = omega arith in
    let l = c.loop-k in
    record { put = left_end l.invariant.1 (rows_end c.args.edition.rows l.k (omega (arith, seventeen))); upper_bound = omega arith }
