-- `rows::lengths_of` meets its contract: a byte that the format does not have empties the set. Assumes nothing.
use Rattle.wire_tables.proofs.lengths_of.Goals as goal

pub returns-then-required-rule : goal.returns-then-required-rule
returns-then-required-rule c = rw c.if-required-rule.true

pub returns-else-required-rule : goal.returns-else-required-rule
returns-else-required-rule c = rw c.if-required-rule.false
