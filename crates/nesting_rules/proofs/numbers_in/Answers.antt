-- `nesting_rules::numbers_in` meets its contract: it is the definition, written out. Assumes nothing.
use borrow.Author.Rules.{rules}
use Rattle.nesting.specs.Decision.{numbers_in}
use Rattle.nesting_rules.proofs.numbers_in.Goals as goal

pub returns : goal.returns
unfolding numbers_in
returns c = search rules
