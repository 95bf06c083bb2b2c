-- `nesting_rows::rows_nested` meets its contract. The invariant: no clause fails of the rows passed, so the answer is that of the rows that are left.
-- Assumes nothing.
use mathlib.Core.Path.{◌≡◌, ◌∙◌}
use native.Mathlib.Omega.{arith}
use borrow.Author.Tests.{ne_eqb, eq-eqb}
use lib.ListN.{length}
use Rattle.nesting.proofs.Steps.{rows_pass, rows_stop, rows_end}
use Rattle.nesting_rows.proofs.rows_nested.Goals as goal

pub returns-then-clause-ne0 : goal.returns-then-clause-ne0
returns-then-clause-ne0 c =
    let s = c.in-Some.ensures.steps in
    rows_stop _ _ _ _ _ _ c.clause_of-clause.ensures (ne_eqb _ _ c.if-clause-ne0.true) ∙ rw (s.0.0, s.0.1, ← s.1) at c.loop-k.invariant.1

pub loop-k-preserved : goal.loop-k-preserved
loop-k-preserved c =
    let s = c.in-Some.ensures.steps in (
      omega (arith, rw (s.0.0, s.0.1) at c.loop-k.invariant.0),
      rw (s.2) (rows_pass _ _ _ _ _ _ c.clause_of-clause.ensures (eq-eqb _ _ c.if-clause-ne0.false)) ∙ rw (s.0.0, s.0.1) at c.loop-k.invariant.1,
    )

pub returns : goal.returns
returns c =
    let l = c.loop-k in
    let s = c.in-None.ensures.steps in
    let z : length l.k-iterator.iter.a.rest.now ≡ 0 = grind arith in
    rows_end _ _ _ z (omega arith) ∙ l.invariant.1
