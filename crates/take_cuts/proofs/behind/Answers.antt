-- `take_cuts::behind` meets its contract. The invariant: what is passed with what is left makes the whole. Assumes nothing.
use mathlib.Core.Path.{◌≡◌, refl, sym, ◌∙◌}
use native.Mathlib.Omega.{arith}
use Rattle.ground.proofs.Lists.{leading_pass, leading_stop}
use Rattle.table_take.specs.Splitting.{is_kind}
use Rattle.take_cuts.proofs.Past.{leading_past}
use Rattle.take_cuts.proofs.behind.Goals as goal

pub loop-i-init : goal.loop-i-init
loop-i-init c = (omega arith, refl)

pub returns-then-not-is_kind : goal.returns-then-not-is_kind
returns-then-not-is_kind c =
    let a = c.args in
    record { value = sym (leading_stop (is_kind a.kind) 0 a.text.now c.loop-i.i (omega arith) (sym c.is_kind.ensures ∙ c.if-not-is_kind.true)) ∙ c.loop-i.invariant.1; lower_bound = (omega arith, omega arith) }

pub loop-i-preserved : goal.loop-i-preserved
loop-i-preserved c =
    let a = c.args in
    (omega arith, sym (leading_pass (is_kind a.kind) 0 a.text.now c.loop-i.i (omega arith) (sym c.is_kind.ensures ∙ c.if-not-is_kind.false)) ∙ c.loop-i.invariant.1)

pub returns : goal.returns
returns c =
    let a = c.args in
    let e : c.max.result ≡ c.loop-i.i = omega arith in
    record { value = e ∙ sym (leading_past (is_kind a.kind) a.text.now c.loop-i.i (omega arith)) ∙ c.loop-i.invariant.1; lower_bound = (omega arith, omega arith) }
