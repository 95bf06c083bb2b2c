-- `refuse_position` meets its contract: 44 is told exactly where the position is not below the count. Assumes nothing.
use mathlib.Core.Path.{sym, ◌∙◌}
use native.Mathlib.Omega.{arith}
use borrow.Author.Tests.{lt-ltb, le-ltb}
use Rattle.day.specs.Calls.{past_refusal}
use Rattle.day.proofs.Opens.{gate_on, gate_off}
use Rattle.day_limits.proofs.refuse_position.Goals as goal

pub returns-then-position-count : goal.returns-then-position-count
unfolding past_refusal
returns-then-position-count c = c.none.ensures ∙ sym (gate_on _ _ (lt-ltb _ _ c.if-position-count.true))

pub returns : goal.returns
unfolding past_refusal
returns c =
    let a = c.args in
    c.new.ensures ∙ sym (gate_off _ _ (le-ltb a.position a.count (omega arith)))
