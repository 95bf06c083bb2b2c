-- `differences::spots::put_objects` meets its contract. The invariant: what is left to put, from the i-th object on, makes the whole. Assumes nothing.
use mathlib.Core.Path.{◌≡◌, refl, ◌∙◌}
use Prim.Native.Nat.{◌+◌, ◌≤◌, ◌<◌}
use native.Mathlib.Omega.{arith}
use lib.ListN.{length, get_or, length-take}
use Rattle.ground.proofs.Puts.{left_start, left_next, left_end}
use Rattle.reader_steps.specs.Steps.{values_at}
use Rattle.reader_steps.proofs.Copies.{values_length}
use Rattle.differences.proofs.Single.{some_few}
use Rattle.differences.proofs.Words.{objects_next, objects_end, part_value}
use Rattle.differences.proofs.spots.put_objects.Goals as goal

pub loop-i-init : goal.loop-i-init
loop-i-init c = (refl, omega arith, left_start _ _ _)

pub overflow_add-b : goal.overflow_add-b
overflow_add-b c =
    let first-inside : get_or c.args.starts c.loop-i.i 0 + get_or c.args.lengths c.loop-i.i 0 ≤ length c.args.first.now =
    c.requires.1.within c.loop-i.i (omega arith) in
    omega (arith, first-inside)

pub overflow_add-d : goal.overflow_add-d
overflow_add-d c =
    let second-inside : get_or c.args.others c.loop-i.i 0 + get_or c.args.sizes c.loop-i.i 0 ≤ length c.args.second.now =
    c.requires.2.within c.loop-i.i (omega arith) in
    omega (arith, second-inside)

pub slice_bounds-object_entry-end : goal.slice_bounds-object_entry-end
slice_bounds-object_entry-end c =
    let first-inside : get_or c.args.starts c.loop-i.i 0 + get_or c.args.lengths c.loop-i.i 0 ≤ length c.args.first.now =
    c.requires.1.within c.loop-i.i (omega arith) in
    omega (arith, first-inside)

pub slice_bounds-object_entry-end-in-loop-i : goal.slice_bounds-object_entry-end-in-loop-i
slice_bounds-object_entry-end-in-loop-i c =
    let second-inside : get_or c.args.others c.loop-i.i 0 + get_or c.args.sizes c.loop-i.i 0 ≤ length c.args.second.now =
    c.requires.2.within c.loop-i.i (omega arith) in
    omega (arith, second-inside)

pub object_entry-entry-requires : goal.object_entry-entry-requires
object_entry-entry-requires c =
    let l = c.loop-i in
    simp length-take (omega (arith, c.requires.1.short l.i (omega arith)))

pub put_entry-count-requires : goal.put_entry-count-requires
put_entry-count-requires c =
    let l = c.loop-i in
    omega (arith, l.invariant.0, l.invariant.1, c.requires.0)

pub loop-i-preserved : goal.loop-i-preserved
loop-i-preserved c =
    let l = c.loop-i in
    let a = c.args in
    let h : l.i < 16 = omega arith in
    let hs : length a.starts ≡ 16 = omega arith in
    let hl : length a.lengths ≡ 16 = omega arith in
    let ks : length a.others ≡ 16 = omega arith in
    let kl : length a.sizes ≡ 16 = omega arith in
    let next =
    objects_next (values_at a.first.now a.starts a.lengths) (values_at a.second.now a.others a.sizes) l.i
    (values_length a.first.now a.starts a.lengths (omega arith) ∙ hs) (values_length a.second.now a.others a.sizes (omega arith) ∙ ks) h
    _ c.tag_of.ensures _ _ (part_value a.first.now a.starts a.lengths l.i (omega arith)) (part_value a.second.now a.others a.sizes l.i (omega arith))
    _ c.object_entry-entry.ensures in
    (omega (arith, c.put_entry-count.auto.room, l.invariant.0), omega (arith, c.put_entry-count.ensures.place, some_few c.object_entry-entry.result, l.invariant.1), left_next l.invariant.2 _ _ next c.put_entry-count.ensures)

pub returns : goal.returns
returns c =
    let l = c.loop-i in
    let e : l.i ≡ 16 = omega arith in
    record { put = left_end l.invariant.2 (objects_end _ _ l.i e); upper_bound = omega (arith, l.invariant.1) }
