-- `text_hex::count_digits`: what is passed with what is left makes the whole. Assumes nothing.
use native.Mathlib.Omega.{arith}
use mathlib.Core.Path.{◌≡◌, sym, ap, ◌∙◌}
use lib.ListN.{length}
use Rattle.std.specs.Option.{is_some}
use Rattle.ground.proofs.Lists.{leading_pass, leading_stop, leading_end}
use Rattle.card_text.specs.Hex.{is_digit}
use Rattle.text_hex.proofs.count_digits.Goals as goal

pub returns-then-is_none : goal.returns-then-is_none
returns-then-is_none c =
    let l = c.loop-i in
    let a = c.args in
    sym (leading_stop is_digit 0 a.value.now l.i (omega arith) (ap is_some (sym c.digit_value.ensures.value) ∙ c.if-is_none.ensures)) ∙ l.invariant

pub loop-i-preserved : goal.loop-i-preserved
loop-i-preserved c =
    let l = c.loop-i in
    let a = c.args in
    sym (leading_pass is_digit 0 a.value.now l.i (omega arith) (ap is_some (sym c.digit_value.ensures.value) ∙ c.if-is_none.ensures)) ∙ l.invariant

pub returns : goal.returns
returns c =
    let l = c.loop-i in
    let e : l.i ≡ length c.args.value.now = omega arith in
    sym e ∙ sym (leading_end is_digit 0 c.args.value.now l.i e) ∙ l.invariant
