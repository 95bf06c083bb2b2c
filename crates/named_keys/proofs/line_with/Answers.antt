-- `named_keys::line_with`: the names that are left, with those passed, make the whole. Assumes nothing.
use native.Mathlib.Nat.{zero-add}
use native.Mathlib.Omega.{arith}
use mathlib.Core.Path.{sym, ◌∙◌}
use Rattle.card_lines.proofs.Listings.{place_here, place_farther, place_over}
use Rattle.named_keys.proofs.line_with.Goals as goal

pub loop-at-init : goal.loop-at-init
loop-at-init c = (omega arith, omega arith, zero-add _)

pub slice_bounds-is_same-end : goal.slice_bounds-is_same-end
slice_bounds-is_same-end c = omega (arith, c.find-end.ensures.lower_bound.1 (omega arith))

pub returns-then-is_same : goal.returns-then-is_same
returns-then-is_same c =
    let l = c.loop-at in
    let a = c.args in
    place_here a.list.now a.name.now l.at c.find-end.result l.i (omega arith) c.find-end.ensures.value (sym c.is_same.ensures ∙ c.if-is_same.true) ∙ l.invariant.2

pub overflow_add-at : goal.overflow_add-at
overflow_add-at c = omega (arith, c.find-end.ensures.lower_bound.1 (omega arith))

pub loop-at-preserved : goal.loop-at-preserved
loop-at-preserved c =
    let l = c.loop-at in
    let a = c.args in (
      omega arith,
      omega (arith, c.find-end.ensures.lower_bound.1 (omega arith)),
      place_farther a.list.now a.name.now l.at c.find-end.result l.i (omega arith) c.find-end.ensures.value (sym c.is_same.ensures ∙ c.if-is_same.false) ∙ l.invariant.2,
    )

pub returns : goal.returns
returns c =
    let l = c.loop-at in
    let a = c.args in
    place_over a.list.now a.name.now l.at l.i (omega arith) ∙ l.invariant.2
