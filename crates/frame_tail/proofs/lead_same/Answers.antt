-- `frame_tail::lead_same` meets its contract, form by form. Assumes nothing.
use borrow.Author.Tests.{le-leb, lt-leb}
use Rattle.lengths.specs.Lengths.{length_field}
use Rattle.frame_tail.proofs.lead_same.Goals as goal

pub returns-then-count-le127 : goal.returns-then-count-le127
unfolding length_field
returns-then-count-le127 c = rw (le-leb _ _ c.if-count-le127.true) c.count_same.ensures

pub returns-else-count-le127 : goal.returns-else-count-le127
unfolding length_field
returns-else-count-le127 c = rw (lt-leb _ _ c.if-count-le127.false, le-leb _ _ c.requires.1) c.count_same-else-count-le127.ensures
