-- `objects_refusals::refuse_rest` meets its contract: what is left ends where the bytes end. Assumes nothing.
use Prim.Native.Nat.{◌+◌, ◌-◌}
use mathlib.Core.Path.{◌≡◌}
use native.Mathlib.Omega.{arith}
use borrow.Author.Tests.{ne_eqb}
use Rattle.card.specs.Refusals.{gate}
use Rattle.card.specs.Reading.{rest_refusal}
use Rattle.objects_refusals.proofs.refuse_rest.Goals as goal

pub returns-then-left-ne0 : goal.returns-then-left-ne0
unfolding rest_refusal gate
returns-then-left-ne0 c =
    let a = c.args in
    let place : a.at + a.left - a.left ≡ a.at = omega arith in
    rw (ne_eqb _ _ c.if-left-ne0.true, place) c.new.ensures

pub returns-else-left-ne0 : goal.returns-else-left-ne0
unfolding rest_refusal gate
returns-else-left-ne0 c = rw c.if-left-ne0.false c.none.ensures
