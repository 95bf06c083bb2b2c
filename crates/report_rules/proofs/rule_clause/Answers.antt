-- `report_rules::rule_clause` meets its contract: the nested picks are the first that fails of the definition's list, test by test. Assumes nothing.
use Rattle.report.specs.Clauses.{first_failing}
use Rattle.report_rules.proofs.rule_clause.Goals as goal

pub returns : goal.returns
unfolding first_failing
returns c =
    rw (c.pick-3.ensures, c.pick-2.ensures, c.pick-dates.ensures, c.pick.ensures)
    (rw (c.by_rule-expiries.ensures, c.by_rule-births.ensures, c.by_rule-others.ensures, c.by_rule-raw.ensures))
