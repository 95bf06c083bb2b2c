-- `planning::steps::put_change` meets its contract, by its test. Assumes nothing.
use native.Mathlib.Omega.{arith}
use borrow.Author.Tests.{eq-eqb, ne_eqb}
use Rattle.planning.proofs.steps.put_change.Goals as goal

pub returns-then-old-new : goal.returns-then-old-new
returns-then-old-new c =
    let e = eq-eqb _ _ c.if-old-new.true in
    record { stored = rw e; place = rw e (omega arith) }

pub returns : goal.returns
returns c =
    let e = ne_eqb _ _ c.if-old-new.false in
    record { stored = rw (e, c.step_to.ensures); place = rw e }
