-- `checks::rows::check_rows` meets its contract. The invariant: the rows passed refuse nothing, so the answer is that of the rows from i on. Assumes nothing.
use mathlib.Core.Path.{◌≡◌, sym, ◌∙◌}
use Prim.Native.Nat.{◌+◌, ◌*◌, ◌≤◌}
use native.Mathlib.Omega.{arith}
use lib.ListN.{length}
use Rattle.edition.proofs.Rows.{formed_rows, formed_within}
use Rattle.ground.proofs.Pieces.{part_length}
use Rattle.wire_records.specs.Records.{lent_record}
use Rattle.wire_records.proofs.Parts.{lent_count}
use Rattle.object_sizes.proofs.Lent.{object_part}
use Rattle.checks.proofs.Faults.{rows_start, rows_end, rows_pass, rows_stop}
use Rattle.checks.proofs.rows.check_rows.Goals as goal

pub loop-i-init : goal.loop-i-init
loop-i-init c =
    let a = c.args in
    rows_start a.edition (lent_record a.bytes.now)

pub slice_bounds-check_row-end : goal.slice_bounds-check_row-end
slice_bounds-check_row-end c = omega (arith, c.requires.0)

pub check_row-refusal-requires : goal.check_row-refusal-requires
check_row-refusal-requires c =
    let seventeen : length c.args.edition.rows ≡ 17 = omega arith in
    let l = c.loop-i in
    let h : 14 + l.i * 29 + 29 ≤ length c.args.bytes.now = omega (arith, c.requires.0) in
    (part_length _ _ 29 h, (formed_within c.args.edition.rows l.i (formed_rows c.args.edition c.requires.1) (omega (arith, seventeen))).small, c.requires.2)

pub returns-then-refusal-ne0 : goal.returns-then-refusal-ne0
returns-then-refusal-ne0 c =
    let seventeen : length c.args.edition.rows ≡ 17 = omega arith in
    let l = c.loop-i in
    let bs = c.args.bytes.now in
    let is = rw (object_part bs c.requires.0 l.i (omega arith)) at c.check_row-refusal.ensures in
    sym (rows_stop c.args.edition.rows (lent_record bs).objects l.i (omega arith) (seventeen) (lent_count bs c.requires.0) _ c.tag_of.ensures is c.if-refusal-ne0.true) ∙ l.invariant

pub loop-i-preserved : goal.loop-i-preserved
loop-i-preserved c =
    let seventeen : length c.args.edition.rows ≡ 17 = omega arith in
    let l = c.loop-i in
    let bs = c.args.bytes.now in
    let is = rw (object_part bs c.requires.0 l.i (omega arith)) at c.check_row-refusal.ensures in
    rows_pass c.args.edition.rows (lent_record bs).objects l.i (omega arith) (seventeen) (lent_count bs c.requires.0) _ c.tag_of.ensures is c.if-refusal-ne0.false ∙ l.invariant

pub returns : goal.returns
returns c =
    let l = c.loop-i in
    let a = c.args in
    let e : l.i ≡ 16 = omega arith in
    sym (rows_end a.edition.rows (lent_record a.bytes.now).objects) ∙ (rw e at l.invariant)
