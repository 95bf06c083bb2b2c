-- `rules_kinds::judge_by` meets its contract, by what the table tells. Assumes nothing.
use mathlib.Core.Path.{sym, ◌∙◌}
use borrow.Author.Rules.{rules}
use Rattle.rules.specs.Kinds.{judged_by}
use Rattle.rules_kinds.proofs.judge_by.Goals as goal

pub returns-then-is_within : goal.returns-then-is_within
unfolding judged_by
returns-then-is_within c = rw (sym c.is_within.ensures ∙ c.if-is_within.true) c.judge_sense.ensures

pub returns : goal.returns
unfolding judged_by
returns c = rw (sym c.is_within.ensures ∙ c.if-is_within.false) c.judge.ensures
