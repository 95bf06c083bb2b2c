-- `frame_tail::count_tail` meets its contract: a part that no card has is told as 0, and any other is counted. Assumes nothing.
use native.Mathlib.Omega.{arith}
use borrow.Author.Tests.{le-leb, lt-leb}
use lib.ListN.{length}
use Rattle.frame.specs.Checks.{same_in}
use Rattle.frame_tail.proofs.count_tail.Goals as goal

pub returns-then-part-lt3 : goal.returns-then-part-lt3
unfolding same_in
returns-then-part-lt3 c = rw (lt-leb _ _ c.if-part-lt3.true)

pub returns-then-part-gt256 : goal.returns-then-part-gt256
unfolding same_in
returns-then-part-gt256 c =
    let n = length c.args.part.now in
    rw (le-leb 3 n (omega arith), lt-leb n 256 (omega arith))

pub returns : goal.returns
unfolding same_in
returns c =
    let n = length c.args.part.now in
    rw (le-leb 3 n (omega arith), le-leb n 256 (omega arith)) c.count_right.ensures
