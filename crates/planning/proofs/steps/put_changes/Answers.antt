-- `planning::steps::put_changes` meets its contract. The invariant: what is left to put, from the i-th byte on, makes the whole. Assumes nothing.
use mathlib.Core.Path.{◌≡◌, refl}
use Prim.Native.Nat.{◌+◌}
use native.Mathlib.Omega.{arith}
use lib.ListN.{length, get_or}
use Rattle.ground.proofs.Puts.{left_start, left_next, left_end}
use Rattle.planning.proofs.Changes.{changes_start, changes_next, changes_end, change_few}
use Rattle.planning.proofs.steps.put_changes.Goals as goal

pub loop-i-init : goal.loop-i-init
loop-i-init c =
    let a = c.args in
    (refl, omega arith, rw (changes_start a.base a.old.now a.new.now) (left_start _ _ _))

pub put_change-count-requires : goal.put_change-count-requires
put_change-count-requires c =
    let l = c.loop-i in
    (omega (arith, l.invariant.0, l.invariant.1), omega arith)

pub loop-i-preserved : goal.loop-i-preserved
loop-i-preserved c =
    let p = c.put_change-count in
    let l = c.loop-i in
    let a = c.args in
    let few = change_few (a.base + l.i) (get_or a.old.now l.i 0) (get_or a.new.now l.i 0) in
    let next = changes_next a.base a.old.now a.new.now l.i (omega arith) c.requires.2 in
    (omega (arith, p.auto.room, l.invariant.0), omega (arith, p.ensures.place, few, l.invariant.1), left_next l.invariant.2 _ _ next p.ensures)

pub returns : goal.returns
returns c =
    let l = c.loop-i in
    let a = c.args in
    let e : l.i ≡ length a.old.now = omega arith in
    left_end l.invariant.2 (changes_end a.base a.old.now a.new.now l.i e)
