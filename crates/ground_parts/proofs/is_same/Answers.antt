-- `ground_parts::is_same` meets its contract. The invariant: what is told so far, with what is left, tells of the whole. Assumes nothing.
use mathlib.Core.Path.{◌≡◌, sym, ◌∙◌}
use native.Mathlib.Omega.{arith}
use lib.ListN.{length}
use borrow.Author.Rules.{rules}
use Rattle.ground.proofs.Lists.{same_other}
use Rattle.ground.proofs.Runs.{same_next, same_over}
use Rattle.ground_parts.proofs.is_same.Goals as goal

pub returns-then-part-want : goal.returns-then-part-want
returns-then-part-want c = sym (same_other _ _ c.if-part-want.true)

pub loop-p-init : goal.loop-p-init
loop-p-init c = search rules

pub loop-p-preserved : goal.loop-p-preserved
loop-p-preserved c =
    let s = c.in-Some.ensures.steps in (
      omega (arith, rw (s.0, s.1) at c.loop-p.invariant.0),
      same_next c.loop-p.difference c.in-Some.p.now c.in-Some.w.now _ _ ∙ rw (s.0, s.1) at c.loop-p.invariant.1,
    )

pub returns : goal.returns
returns c =
    let l = c.loop-p in
    let s = c.in-None.ensures.steps in
    let z : length l.p-iterator.a.rest.now ≡ 0 = grind arith in
    same_over l.difference _ _ z (omega arith) ∙ l.invariant.1
