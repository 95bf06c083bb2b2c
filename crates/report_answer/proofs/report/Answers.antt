-- `report_answer::report` meets its contract: the test on the rows' finding and the number is that of the definition. Assumes nothing.
use Rattle.report.specs.Clauses.{with_number, report_of}
use Rattle.report_answer.proofs.report.Goals as goal

pub returns-then-found-edition : goal.returns-then-found-edition
unfolding with_number report_of
returns-then-found-edition c = rw (← c.report_rows-found.ensures, c.if-found-edition.true)

pub returns : goal.returns
unfolding with_number report_of
returns c = rw (← c.report_rows-found.ensures, c.if-found-edition.false)
