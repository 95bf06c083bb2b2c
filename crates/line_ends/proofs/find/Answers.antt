-- `line_ends::find`: what is passed with what is left makes the whole; past the end nothing is left. Assumes nothing.
use Prim.Native.Nat.{◌≤◌}
use native.Mathlib.Omega.{arith}
use mathlib.Core.Path.{◌≡◌, sym, ◌∙◌}
use lib.ListN.{length, get_or}
use Rattle.card_lines.specs.Lines.{other}
use Rattle.ground.proofs.Lists.{leading_pass, leading_stop, leading_end}
use Rattle.card_lines.proofs.Splits.{leading_past, is_other, is_byte}
use Rattle.line_ends.proofs.find.Goals as goal

pub returns-then-at-text-clause-value : goal.returns-then-at-text-clause-value
returns-then-at-text-clause-value c =
    let a = c.args in
    let h : length a.text.now ≤ a.at = omega arith in
    sym (leading_past (other a.byte) a.text.now a.at h)

pub returns-then-text-end-clause-value : goal.returns-then-text-end-clause-value
returns-then-text-end-clause-value c =
    let l = c.loop-end in
    let a = c.args in
    sym (leading_stop (other a.byte) 0 a.text.now l.end (omega arith) (is_byte a.byte (get_or a.text.now l.end 0) c.if-text-end.true)) ∙ l.invariant

pub loop-end-preserved : goal.loop-end-preserved
loop-end-preserved c =
    let l = c.loop-end in
    let a = c.args in
    sym (leading_pass (other a.byte) 0 a.text.now l.end (omega arith) (is_other a.byte (get_or a.text.now l.end 0) c.if-text-end.false)) ∙ l.invariant

pub returns-clause-value : goal.returns-clause-value
returns-clause-value c =
    let l = c.loop-end in
    let a = c.args in
    let e : l.end ≡ length a.text.now = omega (arith, l.auto) in
    sym e ∙ sym (leading_end (other a.byte) 0 a.text.now l.end e) ∙ l.invariant
