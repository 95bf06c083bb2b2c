-- `filling::put_values` meets its contract. The invariant: what is left to put, from value k on, makes the whole. Assumes nothing.
use mathlib.Core.Path.{◌≡◌, refl, ap, ◌∙◌}
use mathlib.Core.List.{List, [], ◌++◌}
use Prim.Native.Nat.{ℕ, ◌+◌, ◌≤◌, ◌<◌}
use native.Mathlib.Omega.{arith}
use lib.ListN.{length, get_or, drop, length-take}
use Rattle.ground.specs.Pieces.{joined}
use Rattle.ground.proofs.Puts.{left_start, left_next, left_end}
use Rattle.ground.proofs.Pieces.{joined_next, joined_end}
use Rattle.reader_steps.specs.Steps.{values_at}
use Rattle.reader_steps.proofs.Copies.{values_length}
use Rattle.calls_cards.specs.Calls.{value_bytes}
use Rattle.calls_read.proofs.Fills.{value_cut}
use Rattle.calls_read.proofs.put_values.Goals as goal

pub loop-k-init : goal.loop-k-init
loop-k-init c = (refl, omega arith, left_start _ _ _)

pub overflow_add-stop : goal.overflow_add-stop
overflow_add-stop c =
    let inside-at : get_or c.args.starts c.loop-k.k 0 + get_or c.args.lengths c.loop-k.k 0 ≤ length c.args.image.now =
    c.requires.1.within c.loop-k.k (omega arith) in
    omega (arith, inside-at)

pub slice_bounds-put_value-end : goal.slice_bounds-put_value-end
slice_bounds-put_value-end c =
    let inside-at : get_or c.args.starts c.loop-k.k 0 + get_or c.args.lengths c.loop-k.k 0 ≤ length c.args.image.now =
    c.requires.1.within c.loop-k.k (omega arith) in
    inside-at

pub put_value-place-requires : goal.put_value-place-requires
put_value-place-requires c =
    (omega (arith, c), simp length-take (omega (arith, c.requires.1.short c.loop-k.k (omega arith))))

pub loop-k-preserved : goal.loop-k-preserved
loop-k-preserved c =
    let l = c.loop-k in
    let s = c.args.image.now in
    let st = c.args.starts in
    let ls = c.args.lengths in
    let hs : length st ≡ 16 = omega (arith, c) in
    let hl : length ls ≡ 16 = omega (arith, c) in
    let same : length st ≡ length ls = omega arith in
    let h : l.k < length (values_at s st ls) = omega (arith, values_length s st ls same) in
    let next = joined_next value_bytes (values_at s st ls) l.k [] h ∙ ap (λ (v : List ℕ). value_bytes v ++ joined value_bytes (drop (l.k + 1) (values_at s st ls))) (value_cut s st ls l.k same) in
    (omega arith, omega (arith, c.put_value-place.ensures.value), left_next l.invariant.2 _ _ next c.put_value-place.ensures.put)

pub returns : goal.returns
returns c =
    let l = c.loop-k in
    let s = c.args.image.now in
    let st = c.args.starts in
    let ls = c.args.lengths in
    let hs : length st ≡ 16 = omega (arith, c) in
    let hl : length ls ≡ 16 = omega (arith, c) in
    let e : l.k ≡ 16 = omega arith in
    record { put = left_end l.invariant.2 (joined_end value_bytes (values_at s st ls) l.k (omega (arith, values_length s st ls (omega arith)))); value = omega arith }
