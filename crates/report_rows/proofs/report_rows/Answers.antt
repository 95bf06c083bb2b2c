-- `report_rows::report_rows` meets its contract. The invariant: no clause fails of the rows passed, so the finding is that of the rows from `k` on.
-- Assumes nothing.
use mathlib.Core.Path.{sym, ◌∙◌}
use native.Mathlib.Omega.{arith}
use borrow.Author.Tests.{ne_eqb, eq-eqb}
use Rattle.report.proofs.Steps.{rows_pass, rows_stop, rows_end}
use Rattle.report_rows.proofs.report_rows.Goals as goal

pub returns-then-clause-ne0 : goal.returns-then-clause-ne0
returns-then-clause-ne0 c =
    let h = c.loop-k in
    rows_stop _ h.k (omega arith) c.clause_of-clause.result c.clause_of-clause.ensures (ne_eqb _ _ c.if-clause-ne0.true) ∙ h.invariant

pub loop-k-preserved : goal.loop-k-preserved
loop-k-preserved c =
    let h = c.loop-k in
    rows_pass _ h.k (omega arith) c.clause_of-clause.result c.clause_of-clause.ensures (eq-eqb _ _ c.if-clause-ne0.false) ∙ h.invariant

pub returns : goal.returns
returns c =
    let h = c.loop-k in
    sym (rows_end _ h.k (omega arith)) ∙ h.invariant
