-- `writer::head::write_head` meets its contract: its runs of stores make the head. Each fits, since a put keeps the buffer's length. Assumes nothing.
use mathlib.Core.Path.{◌≡◌, ◌∙◌}
use native.Mathlib.Omega.{arith}
use lib.ListN.{length, length-set}
use lib.Seq.{length-take-le}
use Rattle.ground.proofs.Puts.{put_stored}
use Rattle.card.specs.Layout.{identifier}
use Rattle.writer.proofs.Heading.{headed}
use borrow.Author.Rules.{rules}
use Rattle.writer.proofs.head.write_head.Goals as goal

pub bounds-buffer-29 : goal.bounds-buffer-29
bounds-buffer-29 c =
    let long : length c.put.new.room ≡ length c.args.buffer.now =
    simp length-set at c.put.auto.room in
    let l = long in omega arith

pub shape_of-buffer : goal.shape_of-buffer
shape_of-buffer c =
    let long : length c.put.new.room ≡ length c.args.buffer.now =
    simp length-set at c.put.auto.room in
    let l = long in simp length-set (omega arith)

pub returns : goal.returns
unfolding identifier
returns c =
    let twelve : length c.args.free ≡ 12 =
    search rules in
    let long : length c.put.new.room ≡ length c.args.buffer.now =
    simp length-set at c.put.auto.room in
    let n = length-take-le 11 c.args.free (omega (arith, twelve)) in
    let l₁ = long in
    let l₂ = c.put-2.auto.room ∙ l₁ in
    let l₃ = c.put-3.auto.room ∙ l₂ in
    let l₄ = c.put-4.auto.room ∙ l₃ in
    headed c.args.buffer.now c.args.first c.args.free (twelve)
    (put_stored _ _ _ (simp length-set (omega (arith, c.requires))) c.put.ensures.room_after)
    (put_stored _ _ _ (omega (arith, n, l₁, c.requires)) c.put-2.ensures.room_after)
    (put_stored _ _ _ (omega (arith, l₂, c.requires)) c.put-3.ensures.room_after)
    (put_stored _ _ _ (omega (arith, l₃, c.requires)) c.put-4.ensures.room_after)
    (put_stored _ _ _ (omega (arith, l₄, c.requires)) c.put-5.ensures.room_after)
