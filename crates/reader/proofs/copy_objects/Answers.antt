-- `reader::copy_objects` meets its contract. The invariant: the objects copied so far, with absent ones behind them. Assumes nothing.
use mathlib.Core.Path.{◌≡◌, refl, ◌∙◌}
use mathlib.Core.List.{[], map, append-nil}
use Prim.Native.Nat.{◌+◌, ◌≤◌}
use native.Mathlib.Omega.{arith}
use lib.ListN.{length, get_or, length-take, length-map}
use lib.Seq.{take_all}
use Rattle.card.specs.Content.{object_of}
use Rattle.reader_steps.specs.Steps.{values_at}
use Rattle.reader_steps.proofs.Copies.{values_length, copied_more, absent, object_of_lem}
use Rattle.reader.proofs.copy_objects.Goals as goal

pub loop-i-init : goal.loop-i-init
unfolding object_of
loop-i-init c = refl

pub overflow_add-stop : goal.overflow_add-stop
overflow_add-stop c =
    let inside-at : get_or c.args.starts c.loop-i.i 0 + get_or c.args.lengths c.loop-i.i 0 ≤ length c.args.image.now =
    c.requires.within c.loop-i.i (omega arith) in
    omega (arith, inside-at)

pub slice_bounds-copy_object-end : goal.slice_bounds-copy_object-end
slice_bounds-copy_object-end c =
    let inside-at : get_or c.args.starts c.loop-i.i 0 + get_or c.args.lengths c.loop-i.i 0 ≤ length c.args.image.now =
    c.requires.within c.loop-i.i (omega arith) in
    inside-at

pub copy_object-requires : goal.copy_object-requires
copy_object-requires c =
    simp length-take (omega (arith, c.requires.short c.loop-i.i (omega arith)))

pub loop-i-preserved : goal.loop-i-preserved
loop-i-preserved c =
    let l = c.loop-i in
    let s = c.args.image.now in
    let st = c.args.starts in
    let ls = c.args.lengths in
    let hs : length st ≡ 16 = omega arith in
    let hl : length ls ≡ 16 = omega arith in
    let many = values_length s st ls (omega arith) in
    let copies = length-map (values_at s st ls) object_of in
    let next = object_of_lem s st ls l.i (omega arith) in
    rw (l.invariant, c.copy_object.ensures, ← next) (copied_more (map object_of (values_at s st ls)) (object_of []) absent 16 l.i (omega arith) (omega arith))

pub returns : goal.returns
returns c =
    let l = c.loop-i in
    let a = c.args in
    let hs : length a.starts ≡ 16 = omega arith in
    let hl : length a.lengths ≡ 16 = omega arith in
    let e : l.i ≡ 16 = omega arith in
    let many = values_length a.image.now a.starts a.lengths (omega arith) in
    let copies = length-map (values_at a.image.now a.starts a.lengths) object_of in
    l.invariant ∙ rw (e, append-nil) (take_all 16 (map object_of (values_at a.image.now a.starts a.lengths)) (omega arith))
