-- `host::asking::choose` meets its contract: the test is the definition's. Assumes nothing.
use Prim.Native.Nat.{◌+◌, ◌≤◌, ◌<◌}
use borrow.Author.Tests.{le-leb, lt-leb}
use Rattle.card.specs.Refusals.{gate}
use Rattle.host.specs.Steps.{range_of}
use Rattle.host.proofs.asking.choose.Goals as goal

pub returns-then-start-count : goal.returns-then-start-count
unfolding range_of gate
returns-then-start-count c =
    let a = c.args in
    let out : a.end < 30 + a.offset + a.count = c.if-start-count.true in
    rw (lt-leb _ _ out) c.decline.ensures

pub returns : goal.returns
unfolding range_of gate
returns c =
    let a = c.args in
    let inside : 30 + a.offset + a.count ≤ a.end = c.if-start-count.false in
    rw (le-leb _ _ inside)
