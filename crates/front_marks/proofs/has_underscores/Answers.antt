-- `front_marks::has_underscores` meets its contract. The invariant: the printed rows before the i-th have no underscore. Assumes nothing.
use mathlib.Core.Path.{◌≡◌, sym, ap, ◌∙◌}
use mathlib.Core.List.{List}
use Prim.Native.Nat.{ℕ}
use native.Mathlib.Omega.{arith}
use Rattle.card.specs.Content.{content_of}
use Rattle.front.specs.Refusing.{underscored}
use Rattle.front.proofs.Marks.{row_below, rows_here, rows_next, rows_end}
use Rattle.front_marks.proofs.has_underscores.Goals as goal

pub loop-i-init : goal.loop-i-init
loop-i-init c = ap (λ (rs : List ℕ). underscored (content_of c.args.content) rs) c.first_printed-first.ensures.other_rows_value

pub offset_bounds-content-row : goal.offset_bounds-content-row
offset_bounds-content-row c = omega (arith, row_below c.loop-i.i (omega arith))

pub bounds-content-row : goal.bounds-content-row
bounds-content-row c = row_below c.loop-i.i (omega arith)

pub returns-then-has_underscore : goal.returns-then-has_underscore
returns-then-has_underscore c =
    let l = c.loop-i in
    sym (sym l.invariant ∙ rows_here c.args.content l.i (omega arith) (sym c.if-has_underscore.true ∙ c.has_underscore.ensures))

pub loop-i-preserved : goal.loop-i-preserved
loop-i-preserved c =
    let l = c.loop-i in
    sym (rows_next c.args.content l.i (omega arith) (sym c.if-has_underscore.false ∙ c.has_underscore.ensures)) ∙ l.invariant

pub returns : goal.returns
returns c =
    let l = c.loop-i in
    let e : l.i ≡ 10 = omega (arith, c.first_printed-first.ensures.upper_bound) in
    sym (sym (rw e at l.invariant) ∙ rows_end c.args.content)
