-- `rules_kinds::judge_sense` meets its contract: a rule that asks for nothing beyond its characters holds of every value. Assumes nothing.
use mathlib.Core.Path.{sym, ◌∙◌}
use Rattle.rules.proofs.Verdicts.{plain_holds}
use borrow.Author.Rules.{rules}
use Rattle.rules_kinds.proofs.judge_sense.Goals as goal

pub returns-then-is_plain : goal.returns-then-is_plain
returns-then-is_plain c =
    let a = c.args in
    rw (plain_holds a.rule a.v.now (sym c.is_plain.ensures ∙ c.if-is_plain.true))

pub returns-then-holds_for : goal.returns-then-holds_for
returns-then-holds_for c = rw (← c.holds_for.ensures, c.if-holds_for.true)

pub returns-else-holds_for : goal.returns-else-holds_for
returns-else-holds_for c = rw (← c.holds_for.ensures, c.if-holds_for.false)
