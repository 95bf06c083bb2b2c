-- `line_trims::count_blanks`: what is passed with what is left makes the whole. Assumes nothing.
use native.Mathlib.Omega.{arith}
use borrow.Author.Tests.{eq-eqb, ne_eqb}
use mathlib.Core.Path.{◌≡◌, sym, ◌∙◌}
use lib.Dec.{eqb}
use lib.ListN.{length, get_or}
use Rattle.ground.proofs.Lists.{leading_pass, leading_stop, leading_end}
use Rattle.line_trims.proofs.count_blanks.Goals as goal

pub returns-then-byte-ne32 : goal.returns-then-byte-ne32
returns-then-byte-ne32 c =
    let l = c.loop-i in
    let a = c.args in
    sym (leading_stop (eqb 0x20) 0 a.line.now l.i (omega arith) (ne_eqb 0x20 (get_or a.line.now l.i 0) (λ e. c.if-byte-ne32.true (sym e)))) ∙ l.invariant

pub loop-i-preserved : goal.loop-i-preserved
loop-i-preserved c =
    let l = c.loop-i in
    let a = c.args in
    sym (leading_pass (eqb 0x20) 0 a.line.now l.i (omega arith) (eq-eqb 0x20 (get_or a.line.now l.i 0) (sym c.if-byte-ne32.false))) ∙ l.invariant

pub returns : goal.returns
returns c =
    let l = c.loop-i in
    let e : l.i ≡ length c.args.line.now = omega arith in
    sym e ∙ sym (leading_end (eqb 0x20) 0 c.args.line.now l.i e) ∙ l.invariant
