-- `planning::steps::put_plan` meets its contract, by how many bytes become others. Assumes nothing.
use native.Mathlib.Omega.{arith}
use borrow.Author.Tests.{lt-ltb, le-ltb}
use lib.ListN.{length}
use Rattle.planning.specs.Planning.{changes, our_plan}
use Rattle.planning.proofs.steps.put_plan.Goals as goal

pub returns-then-count_changes-lt2 : goal.returns-then-count_changes-lt2
unfolding our_plan
returns-then-count_changes-lt2 c =
    let a = c.args in
    rw (lt-ltb (length (changes 0 a.old.now a.new.now)) 2 (omega (arith, c.count_changes.ensures, c.if-count_changes-lt2.true))) c.put_changes.ensures

pub returns : goal.returns
unfolding our_plan
returns c =
    let a = c.args in
    rw (le-ltb (length (changes 0 a.old.now a.new.now)) 2 (omega (arith, c.count_changes.ensures, c.if-count_changes-lt2.false))) c.put_rewriting.ensures
