-- `report_rows::report_rows` meets its contract. The invariant: no clause fails of the rows passed, so the finding is that of the rows from `k` on.
-- Assumes nothing.
use mathlib.Core.Path.{◌≡◌}
use lib.ListN.{drop}
use Rattle.report.specs.Clauses.{report_from}
use Rattle.report_rows.proofs.report_rows.Given as goal

abbrev pub invariant-loop-k : goal.invariant-loop-k
invariant-loop-k l = report_from l.k (drop l.k l.fn.rows) ≡ report_from 0 l.fn.rows
