-- `card_sums::first_present` meets its contract. The invariant: what is passed with what is left makes the whole. Assumes nothing.
use mathlib.Core.Path.{◌≡◌, refl, sym, ◌∙◌}
use native.Mathlib.Omega.{arith}
use borrow.Author.Rules.{rules}
use borrow.Author.Tests.{eq-eqb, ne_eqb}
use Rattle.ground.proofs.Lists.{leading_pass, leading_stop, leading_end}
use Rattle.card.specs.Rules.{is_zero}
use Rattle.card_sums.proofs.first_present.Goals as goal

pub loop-i-init : goal.loop-i-init
loop-i-init c = (search rules, refl)

pub returns-then-lengths-i-ne0 : goal.returns-then-lengths-i-ne0
returns-then-lengths-i-ne0 c =
    let ls = c.args.lengths in
    sym (leading_stop is_zero 0 ls c.loop-i.i (omega (arith, c.loop-i.invariant.0)) (ne_eqb _ _ c.if-lengths-i-ne0.true)) ∙ c.loop-i.invariant.1

pub loop-i-preserved : goal.loop-i-preserved
loop-i-preserved c =
    let ls = c.args.lengths in
    (c.loop-i.invariant.0, sym (leading_pass is_zero 0 ls c.loop-i.i (omega (arith, c.loop-i.invariant.0)) (eq-eqb _ _ c.if-lengths-i-ne0.false)) ∙ c.loop-i.invariant.1)

pub returns : goal.returns
returns c =
    let ls = c.args.lengths in
    let end : 16 ≡ c.loop-i.i = omega arith in
    end ∙ sym (leading_end is_zero 0 ls c.loop-i.i (omega (arith, c.loop-i.invariant.0))) ∙ c.loop-i.invariant.1
