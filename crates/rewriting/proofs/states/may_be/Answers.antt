-- `rewriting::states::may_be` meets its contract: its tests are those of the definition. Assumes nothing.
use mathlib.Core.Path.{ap, ◌∙◌}
use mathlib.Core.Bool.{not}
use lib.Dec.{eqb}
use Rattle.card.specs.declared.Refusal.{Refusal}
use Rattle.card.specs.declared.Places.{Places}
use Rattle.rewriting.specs.Checking.{passes}
use Rattle.rewriting.proofs.Refused.{one_refusal}
use Rattle.rewriting.proofs.states.may_be.Goals as goal

pub returns-then-is_same : goal.returns-then-is_same
unfolding passes
returns-then-is_same c = rw (← c.is_same.ensures, c.if-is_same.true)

pub returns-then-is_same-2 : goal.returns-then-is_same-2
unfolding passes
returns-then-is_same-2 c = rw (← c.is_same.ensures, c.if-is_same.false, ← c.is_same-2.ensures, c.if-is_same-2.true)

pub returns : goal.returns
unfolding passes
returns c =
    rw (← c.is_same.ensures, c.if-is_same.false, ← c.is_same-2.ensures, c.if-is_same-2.false)
    (ap (λ (x : Refusal). not (eqb x.number 0)) (ap (λ (p : Places). p.refusal) c.places.ensures ∙ one_refusal _ _))
