-- `checks::rows::check_row` meets its contract, test by test; a permitted length is at most 28, since the set is below 2 ^ 29. Assumes nothing.
use mathlib.Core.Path.{◌≡◌, sym, ap, ◌∙◌}
use mathlib.Core.List.{List}
use Prim.Native.Nat.{ℕ, ◌≤◌}
use native.Mathlib.Omega.{arith}
use lib.ListN.{length, get_or}
use Rattle.edition.proofs.Rows.{permits_most}
use Rattle.rules.specs.Values.{judged}
use Rattle.card.specs.Content.{value_of}
use Rattle.card.specs.Rules.{entry_of, of_verdict}
use Rattle.card.specs.Refusing.{row_refusal}
use Rattle.wire_records.specs.Records.{object_from}
use Rattle.object_sizes.proofs.Lent.{long_from, value_part}
use Rattle.checks.proofs.Faults.{fault_absent, fault_present}
use Rattle.checks.proofs.rows.check_row.Goals as goal

pub bounds-item-0 : goal.bounds-item-0
bounds-item-0 c = omega (arith, c.requires.0)

pub returns-then-row : goal.returns-then-row
unfolding row_refusal
returns-then-row c =
    let long : length (value_of (object_from c.args.item.now)) ≡ get_or c.args.item.now 0 0 =
    long_from c.args.item.now c.requires.0 (omega (arith, c.type_inv.item 0)) in
    let a = c.args in
    rw (fault_absent a.row (value_of (object_from a.item.now)) (long ∙ c.if-n-eq0.true), c.if-row.true) c.new.ensures

pub returns-else-row : goal.returns-else-row
unfolding row_refusal
returns-else-row c =
    let long : length (value_of (object_from c.args.item.now)) ≡ get_or c.args.item.now 0 0 =
    long_from c.args.item.now c.requires.0 (omega (arith, c.type_inv.item 0)) in
    let a = c.args in
    rw (fault_absent a.row (value_of (object_from a.item.now)) (long ∙ c.if-n-eq0.true), c.if-row.false)

pub overflow_cast-end : goal.overflow_cast-end
overflow_cast-end c =
    let short : get_or c.args.item.now 0 0 ≤ 28 =
    permits_most c.args.row.lengths (get_or c.args.item.now 0 0) c.requires.1 (sym c.permits.ensures ∙ c.if-permits.true) in
    let h = short in omega arith

pub overflow_add-end : goal.overflow_add-end
overflow_add-end c =
    let short : get_or c.args.item.now 0 0 ≤ 28 =
    permits_most c.args.row.lengths (get_or c.args.item.now 0 0) c.requires.1 (sym c.permits.ensures ∙ c.if-permits.true) in
    let h = short in omega arith

pub slice_bounds-check_value-count : goal.slice_bounds-check_value-count
slice_bounds-check_value-count c =
    let short : get_or c.args.item.now 0 0 ≤ 28 =
    permits_most c.args.row.lengths (get_or c.args.item.now 0 0) c.requires.1 (sym c.permits.ensures ∙ c.if-permits.true) in
    let h = short in omega arith

pub slice_bounds-check_value-start : goal.slice_bounds-check_value-start
slice_bounds-check_value-start c =
    let short : get_or c.args.item.now 0 0 ≤ 28 =
    permits_most c.args.row.lengths (get_or c.args.item.now 0 0) c.requires.1 (sym c.permits.ensures ∙ c.if-permits.true) in
    let h = short in omega arith

pub slice_bounds-check_value-end : goal.slice_bounds-check_value-end
slice_bounds-check_value-end c =
    let short : get_or c.args.item.now 0 0 ≤ 28 =
    permits_most c.args.row.lengths (get_or c.args.item.now 0 0) c.requires.1 (sym c.permits.ensures ∙ c.if-permits.true) in
    let h = short in omega (arith, c.requires.0)

pub check_value-requires : goal.check_value-requires
check_value-requires c = c.requires.2

pub returns-then-permits : goal.returns-then-permits
returns-then-permits c =
    let long : length (value_of (object_from c.args.item.now)) ≡ get_or c.args.item.now 0 0 =
    long_from c.args.item.now c.requires.0 (omega (arith, c.type_inv.item 0)) in
    let short : get_or c.args.item.now 0 0 ≤ 28 =
    permits_most c.args.row.lengths (get_or c.args.item.now 0 0) c.requires.1 (sym c.permits.ensures ∙ c.if-permits.true) in
    let row = c.args.row in
    let bs = c.args.item.now in
    let is = ap (λ (v : List ℕ). row_refusal (entry_of c.args.tag row) (of_verdict (judged row.rule v))) (value_part bs c.requires.0 (short)) in
    rw (fault_present row (value_of (object_from bs)) _ (long) c.if-n-eq0.false, sym c.permits.ensures ∙ c.if-permits.true) (c.check_value.ensures ∙ is)

pub returns : goal.returns
unfolding row_refusal
returns c =
    let long : length (value_of (object_from c.args.item.now)) ≡ get_or c.args.item.now 0 0 =
    long_from c.args.item.now c.requires.0 (omega (arith, c.type_inv.item 0)) in
    rw (fault_present c.args.row (value_of (object_from c.args.item.now)) _ (long) c.if-n-eq0.false, sym c.permits.ensures ∙ c.if-permits.false) c.of_length.ensures
