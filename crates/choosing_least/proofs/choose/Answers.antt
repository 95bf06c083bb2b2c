-- `choosing_least::choose` meets its contract. The invariant: the best so far weighs least of the numbers passed, and its weight is kept beside it. Assumes nothing.
use native.Mathlib.Omega.{arith}
use mathlib.Core.Path.{◌≡◌, ap, ◌∙◌}
use borrow.Author.Rules.{rules}
use Rattle.choosing.specs.Choices.{weight, weight_at, three_of, chosen}
use Rattle.choosing.proofs.Least.{least_none, kept_less, kept_same}
use Rattle.choosing_least.proofs.choose.Goals as goal
use Rattle.choosing_least.proofs.choose.Goals.{then-weight-least, else-weight-least}

pub loop-code-init : goal.loop-code-init
loop-code-init c = (search rules, search rules, least_none _ _, c.weight_of-least.ensures ∙ ap (weight _ _ _ _ _) c.three_of.ensures)

pub loop-code-preserved : goal.loop-code-preserved
loop-code-preserved c =
    let l = c.loop-code in
    let a = c.args in
    let heavy : c.weight_of-weight.result ≡ weight_at a.long a.names a.a a.b a.c l.code =
    rw c.three_of-in-loop-code.ensures at c.weight_of-weight.ensures in
    let f = weight_at a.long a.names a.a a.b a.c in
    elim c.if-weight-least.branch [
      | then-weight-least w ↦ kept_less f l.best l.least l.code c.weight_of-weight.result c.if-weight-least.best c.if-weight-least.least l.invariant c.loop-code-test.true heavy w.if-weight-least.true w.best-is w.least-is
      | else-weight-least w ↦ kept_same f l.best l.least l.code c.weight_of-weight.result c.if-weight-least.best c.if-weight-least.least l.invariant c.loop-code-test.true heavy w.if-weight-least.false w.best-is w.least-is
    ]

pub returns : goal.returns
unfolding chosen
returns c =
    let l = c.loop-code in
    let e : l.code ≡ 24389 = omega arith in
    c.three_of-2.ensures ∙ ap three_of (rw e at l.invariant.2)
