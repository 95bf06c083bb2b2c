-- `checks::check_ends` meets its contract: both ends are allowed, or one is not. Assumes nothing.
use mathlib.Core.Path.{sym, ◌∙◌}
use Rattle.checks.proofs.Order.{ends_allowed, ends_refused}
use Rattle.checks.proofs.check_ends.Goals as goal

pub returns-then-allows_first-allows_last : goal.returns-then-allows_first-allows_last
returns-then-allows_first-allows_last c =
    sym (ends_allowed _ _ (rw (← c.allows_first.ensures, ← c.allows_last.ensures) c.if-allows_first-allows_last.true))

pub returns-else-allows_first-allows_last : goal.returns-else-allows_first-allows_last
returns-else-allows_first-allows_last c =
    c.new.ensures ∙ sym (ends_refused _ _ (rw (← c.allows_first.ensures, ← c.allows_last.ensures) c.if-allows_first-allows_last.false))
