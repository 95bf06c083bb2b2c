-- `nesting_witness::witness` meets its contract: each byte is that of the definition. Assumes nothing.
use Rattle.nesting.specs.Decision.{witness_of}
use Rattle.nesting_witness.proofs.witness.Goals as goal

pub returns : goal.returns
unfolding witness_of
returns c =
    let b = c.by_name-2 in
    let p = c.pick in
    let a = c.by_name in
    let s = c.shortest in
    let n = c.number_of-left in
    rw (c.pick-2.ensures, b.ensures, p.ensures, a.ensures, s.ensures, n.ensures)
