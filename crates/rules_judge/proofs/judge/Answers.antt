-- `rules_judge::judge` meets its contract: the first byte outside comes before the sense of the value. Assumes nothing.
use mathlib.Core.Path.{sym, ◌∙◌}
use borrow.Author.Tests.{lt-ltb, le-ltb}
use Rattle.rules.specs.Values.{judged}
use Rattle.rules.proofs.Verdicts.{plain_holds}
use borrow.Author.Rules.{rules}
use Rattle.rules_judge.proofs.judge.Goals as goal

pub returns-then-n-v : goal.returns-then-n-v
unfolding judged
returns-then-n-v c = rw (← c.count_taken-n.ensures, lt-ltb _ _ c.if-n-v.true)

pub returns-then-is_plain : goal.returns-then-is_plain
unfolding judged
returns-then-is_plain c =
    let a = c.args in
    rw (← c.count_taken-n.ensures, le-ltb _ _ c.if-n-v.false, plain_holds a.rule a.v.now (sym c.is_plain.ensures ∙ c.if-is_plain.true))

pub returns-then-holds_for : goal.returns-then-holds_for
unfolding judged
returns-then-holds_for c = rw (← c.count_taken-n.ensures, le-ltb _ _ c.if-n-v.false, ← c.holds_for.ensures, c.if-holds_for.true)

pub returns-else-holds_for : goal.returns-else-holds_for
unfolding judged
returns-else-holds_for c = rw (← c.count_taken-n.ensures, le-ltb _ _ c.if-n-v.false, ← c.holds_for.ensures, c.if-holds_for.false)
