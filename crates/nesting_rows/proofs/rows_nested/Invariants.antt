-- `nesting_rows::rows_nested` meets its contract. The invariant: no clause fails of the rows passed, so the answer is that of the rows that are left.
-- Assumes nothing.
use mathlib.Core.Path.{◌≡◌}
use lib.ListN.{length}
use Rattle.nesting.specs.Decision.{nesting_from}
use Rattle.nesting_rows.proofs.rows_nested.Given as goal

abbrev pub invariant-loop-k : goal.invariant-loop-k
invariant-loop-k l =
    let inner = l.k-iterator.iter.a.rest.now in
    let outer = l.k-iterator.iter.b.rest.now in
    (length inner ≡ length outer) × (nesting_from l.k-iterator.count inner outer ≡ nesting_from 0 l.fn.inner l.fn.outer)
