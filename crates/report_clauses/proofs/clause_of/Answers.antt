-- `report_clauses::clause_of` meets its contract: the clauses of the set and of row 8E come before those of the rule, as in the definition's list. Assumes nothing.
use Rattle.report.specs.Clauses.{first_failing, clause_of}
use Rattle.report_clauses.proofs.clause_of.Goals as goal

pub returns : goal.returns
unfolding clause_of first_failing
returns c =
    rw (c.pick-3.ensures, c.pick-2.ensures, c.pick-of_last.ensures, c.pick.ensures)
    (rw c.rule_clause-of_rule.ensures)
