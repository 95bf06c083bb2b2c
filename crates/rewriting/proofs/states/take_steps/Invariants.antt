-- `rewriting::states::take_steps` meets its contract. The invariant: the steps taken were right, so the answer is that of the steps from i on. Assumes nothing.
use mathlib.Core.Path.{◌≡◌}
use lib.ListN.{length, drop}
use Rattle.rewriting.specs.Checking.{plan_test}
use Rattle.rewriting.proofs.states.take_steps.Given as goal

abbrev pub invariant-loop-word : goal.invariant-loop-word
invariant-loop-word l =
    (length l.state ≡ length l.initial.state) × (plan_test l.edition l.old l.new l.state (drop l.word-index l.steps) ≡ plan_test l.edition l.old l.new l.initial.state l.steps)
