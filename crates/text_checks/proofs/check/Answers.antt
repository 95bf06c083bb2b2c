-- `text_checks::check`: the first fault of the lines that are left is the first of all. Assumes nothing.
use native.Mathlib.Omega.{arith}
use mathlib.Core.Path.{refl, ap, ◌∙◌}
use Rattle.std.specs.Prelude.{Some}
use Rattle.card_text.proofs.Passing.{fault_here, fault_farther, fault_over}
use Rattle.text_checks.proofs.check.Goals as goal

pub loop-at-init : goal.loop-at-init
loop-at-init c = (omega arith, omega arith, refl)

pub slice_bounds-fault_of_line-end : goal.slice_bounds-fault_of_line-end
slice_bounds-fault_of_line-end c = omega (arith, c.feed_from-feed.ensures.lower_bound.1 (omega arith))

pub slice_bounds-fault_at-end : goal.slice_bounds-fault_at-end
slice_bounds-fault_at-end c = omega (arith, c.feed_from-feed.ensures.lower_bound.1 (omega arith))

pub returns-in-Some : goal.returns-in-Some
returns-in-Some c =
    let l = c.loop-at in
    let a = c.args in
    ap Some c.fault_at.ensures ∙ fault_here a.text.now l.at c.feed_from-feed.result l.line (omega arith) c.feed_from-feed.ensures.value _ c.fault_of_line.ensures c.in-Some.wrong c.in-Some.is ∙ l.invariant.2

pub overflow_add-at : goal.overflow_add-at
overflow_add-at c = omega (arith, c.feed_from-feed.ensures.lower_bound.1 (omega arith))

pub loop-at-preserved : goal.loop-at-preserved
loop-at-preserved c =
    let l = c.loop-at in
    let a = c.args in (
      omega arith,
      omega (arith, c.feed_from-feed.ensures.lower_bound.1 (omega arith)),
      fault_farther a.text.now l.at c.feed_from-feed.result l.line (omega arith) c.feed_from-feed.ensures.value _ c.fault_of_line.ensures c.in_default.is ∙ l.invariant.2,
    )

pub returns : goal.returns
returns c =
    let l = c.loop-at in
    fault_over c.args.text.now l.at l.line (omega arith) ∙ l.invariant.2
