-- `line_names::put_line`: the name that is asked for stands among those left, so many lines on. Assumes nothing.
use Prim.Native.Nat.{◌-◌}
use native.Mathlib.Omega.{arith}
use mathlib.Core.Path.{refl, ◌∙◌}
use Rattle.card_lines.specs.Lines.{lines}
use Rattle.card_lines.proofs.Listings.{line_here, line_farther, no_line, from_start, put_same, put_nothing}
use Rattle.line_names.proofs.put_line.Goals as goal

pub loop-at-init : goal.loop-at-init
loop-at-init c = (refl, refl, omega arith, omega arith, omega arith, from_start (lines c.args.list.now) c.args.number)

pub slice_bounds-put-end : goal.slice_bounds-put-end
slice_bounds-put-end c = omega (arith, c.find-end.ensures.lower_bound.1 (omega arith))

pub returns-then-i-number : goal.returns-then-i-number
returns-then-i-number c =
    let l = c.loop-at in
    let a = c.args in
    record { value = (put_same a.place l.invariant.1 (line_here a.list.now l.at c.find-end.result l.i a.number (omega arith) c.find-end.ensures.value c.if-i-number.true ∙ l.invariant.5) c.put.ensures.value c.put.ensures.room_after).0; room_after = (put_same a.place l.invariant.1 (line_here a.list.now l.at c.find-end.result l.i a.number (omega arith) c.find-end.ensures.value c.if-i-number.true ∙ l.invariant.5) c.put.ensures.value c.put.ensures.room_after).1 }

pub overflow_add-at : goal.overflow_add-at
overflow_add-at c = omega (arith, c.find-end.ensures.lower_bound.1 (omega arith))

pub loop-at-preserved : goal.loop-at-preserved
loop-at-preserved c =
    let l = c.loop-at in
    let a = c.args in (
      l.invariant.0,
      l.invariant.1,
      omega arith,
      omega (arith, c.find-end.ensures.lower_bound.1 (omega arith)),
      omega arith,
      line_farther a.list.now l.at c.find-end.result l.i a.number (omega arith) c.find-end.ensures.value (omega arith) ∙ l.invariant.5,
    )

pub returns : goal.returns
returns c =
    let l = c.loop-at in
    let a = c.args in
    record { value = (put_nothing l.invariant.1 (no_line a.list.now l.at (a.number - l.i) (omega arith) ∙ l.invariant.5)).0; room_after = (put_nothing l.invariant.1 (no_line a.list.now l.at (a.number - l.i) (omega arith) ∙ l.invariant.5)).1 }
