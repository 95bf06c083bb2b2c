-- `frame_parts::number_tail` meets its contract: a part that no card has is told as 0. Assumes nothing.
use native.Mathlib.Omega.{arith}
use borrow.Author.Tests.{le-leb, lt-leb}
use Rattle.frame.specs.Checks.{part_in}
use Rattle.frame_parts.proofs.number_tail.Goals as goal

pub returns-then-size-lt3 : goal.returns-then-size-lt3
unfolding part_in
returns-then-size-lt3 c = rw (lt-leb _ _ c.if-size-lt3.true)

pub returns-then-size-gt256 : goal.returns-then-size-gt256
unfolding part_in
returns-then-size-gt256 c =
    let n = c.args.size in
    rw (le-leb 3 n (omega arith), lt-leb n 256 (omega arith))

pub returns : goal.returns
unfolding part_in
returns c =
    let n = c.args.size in
    rw (le-leb 3 n (omega arith), le-leb n 256 (omega arith)) c.number_part.ensures
