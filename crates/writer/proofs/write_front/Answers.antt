-- `writer::write_front` meets its contract: twelve bytes fill the free bytes, and the head is made of them. Assumes nothing.
use mathlib.Core.Path.{◌≡◌, sym, ap₂, ◌∙◌}
use mathlib.Core.List.{List}
use Prim.Native.Nat.{ℕ}
use native.Mathlib.Omega.{arith}
use lib.ListN.{length, take, drop, replicate, length-drop, length-replicate}
use lib.Seq.{sets, length-take-le}
use Rattle.ground.proofs.Puts.{put_whole}
use Rattle.card.specs.Layout.{head}
use Rattle.wire_records.proofs.Parts.{lent_first, lent_free}
use Rattle.writer.proofs.write_front.Goals as goal

pub slice_bounds-put-end-2 : goal.slice_bounds-put-end-2
slice_bounds-put-end-2 c = omega (arith, c.requires.0)

pub bounds-bytes-0 : goal.bounds-bytes-0
bounds-bytes-0 c = omega (arith, c.requires.0)

pub write_head-requires : goal.write_head-requires
write_head-requires c = c.requires.1

pub returns : goal.returns
returns c =
    let bs = c.args.bytes.now in
    let twelve : length (take 12 (drop 1 bs)) ≡ length (replicate {A = ℕ} 12 0) = length-take-le 12 (drop 1 bs) (omega (arith, c.requires.0, length-drop 1 bs)) ∙ sym (length-replicate {A = ℕ} 12 0) in
    let free = put_whole _ (take 12 (drop 1 bs)) twelve c.put.ensures.room_after in
    c.write_head.ensures ∙ ap₂ (λ (x : ℕ) (y : List ℕ). sets c.args.room.now 0 (head x y)) (sym (lent_first bs c.requires.0)) (free ∙ sym (lent_free bs c.requires.0))
