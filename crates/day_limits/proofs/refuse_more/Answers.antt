-- `refuse_more` meets its contract: 43 comes before 45, and below 200 cards the size that is asked for does not overflow. Assumes nothing.
use mathlib.Core.Path.{sym, ◌∙◌}
use native.Mathlib.Omega.{arith}
use Rattle.day.proofs.Adds.{more_many, more_small, more_none}
use Rattle.day_limits.proofs.refuse_more.Goals as goal

pub returns-then-count-ge200 : goal.returns-then-count-ge200
returns-then-count-ge200 c = c.new.ensures ∙ sym (more_many _ _ c.if-count-ge200.true)

pub returns-then-size-count : goal.returns-then-size-count
returns-then-size-count c = c.new-then-size-count.ensures ∙ sym (more_small _ _ (omega arith) c.if-size-count.true)

pub returns : goal.returns
returns c = c.none.ensures ∙ sym (more_none _ _ (omega arith) (omega arith))
