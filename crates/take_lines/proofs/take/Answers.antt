-- `take_lines::take` meets its contract. The invariant: the lines that are left, with what was said so far, make the whole. Assumes nothing.
use mathlib.Core.Path.{refl, sym, ◌∙◌}
use native.Mathlib.Omega.{arith}
use Rattle.table_take.specs.Taking.{taken}
use Rattle.table_take.proofs.Turns.{line_turn, lines_over}
use Rattle.take_lines.proofs.take.Goals as goal

pub loop-at-init : goal.loop-at-init
loop-at-init c = (omega arith, omega arith, refl)

pub loop-at-preserved : goal.loop-at-preserved
loop-at-preserved c =
    let l = c.loop-at in
    (omega arith, omega arith, rw c.with_line-state.ensures (line_turn l.state l.n c.args.text.now l.at c.behind-end.result (omega arith) c.behind-end.ensures.value ∙ l.invariant.2))

pub returns : goal.returns
unfolding taken
returns c =
    let l = c.loop-at in
    c.finished.ensures ∙ sym (lines_over l.state l.n c.args.text.now l.at (omega arith)) ∙ l.invariant.2
