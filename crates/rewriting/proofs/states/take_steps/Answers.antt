-- `rewriting::states::take_steps` meets its contract. The invariant: the steps taken were right, so the answer is that of the steps from i on. Assumes nothing.
use mathlib.Core.Path.{refl, sym, ap, ◌∙◌}
use mathlib.Core.List.{List}
use Prim.Native.Nat.{ℕ, ◌+◌}
use native.Mathlib.Omega.{arith}
use lib.ListN.{drop}
use Rattle.rewriting.specs.Checking.{plan_test}
use Rattle.rewriting.proofs.Steps.{test_pass, test_stop, test_end}
use Rattle.rewriting.proofs.states.take_steps.Goals as goal

pub loop-word-init : goal.loop-word-init
loop-word-init c = (refl, refl)

pub returns-then-not-take_step : goal.returns-then-not-take_step
returns-then-not-take_step c =
    let t = c.take_step in
    let l = c.loop-word in
    let a = c.args in
    sym (test_stop a.edition a.old.now a.new.now l.state a.steps.now l.word-index (omega arith) (sym t.ensures.value ∙ c.if-not-take_step.true)) ∙ l.invariant.1

pub loop-word-preserved : goal.loop-word-preserved
loop-word-preserved c =
    let t = c.take_step in
    let l = c.loop-word in
    let a = c.args in (
      omega (arith, t.auto.state, l.invariant.0),
      ap (λ (s : List ℕ). plan_test a.edition a.old.now a.new.now s (drop (l.word-index + 1) a.steps.now)) t.ensures.state_after
          ∙ test_pass a.edition a.old.now a.new.now l.state a.steps.now l.word-index (omega arith) (sym t.ensures.value ∙ c.if-not-take_step.false)
          ∙ l.invariant.1,
    )

pub returns : goal.returns
returns c =
    let l = c.loop-word in
    let a = c.args in
    c.is_same.ensures ∙ sym (test_end a.edition a.old.now a.new.now l.state a.steps.now l.word-index (omega arith)) ∙ l.invariant.1
