-- `take_words::with_rule` meets its contract: what its calls tell. Assumes nothing.
use Rattle.table_take.specs.Words.{with_rule}
use Rattle.take_words.proofs.with_rule.Goals as goal

pub returns : goal.returns
unfolding with_rule
returns c = rw (c.fault.ensures, c.rule_found-rule.ensures.value)
