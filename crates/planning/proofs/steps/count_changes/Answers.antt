-- `planning::steps::count_changes` meets its contract. The invariant: the count, and the steps from the i-th byte on, make the whole. Assumes nothing.
use mathlib.Core.Path.{◌≡◌, ap, ◌∙◌}
use Prim.Native.Nat.{◌+◌, ◌≤◌}
use native.Mathlib.Omega.{arith}
use lib.ListN.{length, drop, get_or, length-append}
use Rattle.planning.specs.Planning.{change, changes}
use Rattle.planning.proofs.Changes.{changes_start, changes_next, changes_end, change_few, change_size}
use Rattle.planning.proofs.steps.count_changes.Goals as goal

pub loop-i-init : goal.loop-i-init
loop-i-init c =
    let a = c.args in
    (omega arith, rw (changes_start 0 a.old.now a.new.now) (omega arith))

pub overflow_add-count : goal.overflow_add-count
overflow_add-count c =
    let more : c.count_change-count.result ≤ 1 =
    let l = c.loop-i in let a = c.args in omega (arith, c.count_change-count.ensures, change_few 0 (get_or a.old.now l.i 0) (get_or a.new.now l.i 0)) in
    omega (arith, more, c.loop-i.invariant.0)

pub loop-i-preserved : goal.loop-i-preserved
loop-i-preserved c =
    let more : c.count_change-count.result ≤ 1 =
    let l = c.loop-i in let a = c.args in omega (arith, c.count_change-count.ensures, change_few 0 (get_or a.old.now l.i 0) (get_or a.new.now l.i 0)) in
    let l = c.loop-i in
    let a = c.args in
    let next = changes_next 0 a.old.now a.new.now l.i (omega arith) c.requires in
    let sizes = ap length next ∙ length-append (change (0 + l.i) (get_or a.old.now l.i 0) (get_or a.new.now l.i 0)) (changes (0 + (l.i + 1)) (drop (l.i + 1) a.old.now) (drop (l.i + 1) a.new.now)) in
    let here = change_size (0 + l.i) (get_or a.old.now l.i 0) (get_or a.new.now l.i 0) in
    (omega (arith, more, l.invariant.0), omega (arith, sizes, here, c.count_change-count.ensures, l.invariant.1))

pub returns : goal.returns
returns c =
    let l = c.loop-i in
    let a = c.args in
    let e : l.i ≡ length a.old.now = omega arith in
    let none = ap length (changes_end 0 a.old.now a.new.now l.i e) in
    omega (arith, none, l.invariant.1)
