-- `frame_lead::lead_size` meets its contract: a tag, and one byte of length, two or three. Assumes nothing.
use borrow.Author.Tests.{le-leb, lt-leb}
use Rattle.lengths.specs.Lengths.{length_field}
use Rattle.frame_lead.proofs.lead_size.Goals as goal

pub returns-then-count-le127 : goal.returns-then-count-le127
unfolding length_field
returns-then-count-le127 c = rw (le-leb _ _ c.if-count-le127.true)

pub returns-then-count-le255 : goal.returns-then-count-le255
unfolding length_field
returns-then-count-le255 c = rw (lt-leb _ _ c.if-count-le127.false, le-leb _ _ c.if-count-le255.true)

pub returns : goal.returns
unfolding length_field
returns c = rw (lt-leb _ _ c.if-count-le127.false, lt-leb _ _ c.if-count-le255.false)
