-- `rules_kinds::is_within` meets its contract: a table of another length tells nothing. Assumes nothing.
use borrow.Author.Tests.{eq-eqb, ne_eqb}
use borrow.Author.Rules.{rules}
use Rattle.rules.specs.Kinds.{within}
use Rattle.rules_kinds.proofs.is_within.Goals as goal

pub returns-then-kinds-ne256 : goal.returns-then-kinds-ne256
unfolding within
returns-then-kinds-ne256 c = rw (ne_eqb _ _ c.if-kinds-ne256.true)

pub returns : goal.returns
unfolding within
returns c = rw (eq-eqb _ _ c.if-kinds-ne256.false, c.worst_of.ensures, c.most_of.ensures)
