-- `rows::rows_of` meets its contract. The invariant: the rows passed are those of the pieces passed. Assumes nothing.
use mathlib.Core.Path.{◌≡◌, refl}
use Prim.Native.Nat.{◌+◌, ◌-◌, ◌*◌, ◌<◌}
use native.Mathlib.Omega.{arith}
use borrow.Author.Rules.{rules}
use lib.ListN.{length, length-set}
use Rattle.ground.specs.Pieces.{pieces}
use Rattle.wire_tables.specs.Tables.{row_from, edition_from}
use Rattle.ground.proofs.Pieces.{stored_more, stored_all}
use Rattle.wire_tables.proofs.RowsAt.{row_at}
use Rattle.wire_tables.proofs.rows_of.Goals as goal

pub loop-k-init : goal.loop-k-init
unfolding pieces
loop-k-init c = (refl, refl)

pub loop-k-preserved : goal.loop-k-preserved
loop-k-preserved c =
    let l = c.loop-k in
    let six : l.k * 6 + 6 - l.k * 6 ≡ 6 = omega arith in
    let h : l.k < length l.row-items = omega arith in (
      simp length-set (omega arith),
      stored_more row_from 6 _ l.row-items l.k l.invariant.1 h
          (rw (c.lengths_of.ensures, c.rule_of.ensures, c.four_bytes-lengths.ensures, six) (row_at c.args.table.now (l.k * 6))),
    )

pub returns : goal.returns
unfolding edition_from
returns c =
    let l = c.loop-k in
    let e : l.k ≡ 17 = omega arith in
    rw e at (stored_all row_from 6 _ l.row-items l.k l.invariant.1 (omega arith))
