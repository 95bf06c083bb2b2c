-- `nesting_clauses::clause_of` meets its contract: each test is that of the definition. Assumes nothing.
use Rattle.nesting.specs.Decision.{clause_of}
use Rattle.nesting_clauses.proofs.clause_of.Goals as goal

pub returns : goal.returns
unfolding clause_of
returns c =
    let n = c.numbers_in-takes in
    let o = c.number_of-2 in
    let i = c.number_of in
    let p = c.permits in
    rw (c.pick-3.ensures, c.pick-2.ensures, c.pick.ensures, n.ensures, o.ensures, i.ensures, p.ensures)
