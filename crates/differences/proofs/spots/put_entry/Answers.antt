-- `differences::spots::put_entry` meets its contract, by its test. Assumes nothing.
use native.Mathlib.Omega.{arith}
use borrow.Author.Tests.{eq-eqb, ne_eqb}
use Rattle.differences.proofs.spots.put_entry.Goals as goal

pub returns-then-entry-eq0 : goal.returns-then-entry-eq0
returns-then-entry-eq0 c =
    let e = eq-eqb _ 0 c.if-entry-eq0.true in
    record { stored = rw e; place = rw e (omega arith) }

pub returns : goal.returns
returns c =
    let e = ne_eqb _ 0 c.if-entry-eq0.false in
    record { stored = rw e; place = rw e }
