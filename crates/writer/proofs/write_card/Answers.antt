-- `writer::write_card` meets its contract: the first 256 bytes of the room fill the buffer. Assumes nothing.
use mathlib.Core.Path.{◌≡◌, sym, ◌∙◌}
use Prim.Native.Nat.{ℕ}
use native.Mathlib.Omega.{arith}
use lib.ListN.{length, take, length-replicate}
use lib.Seq.{length-take-le}
use Rattle.ground.proofs.Puts.{put_whole}
use Rattle.writer.proofs.write_card.Goals as goal

pub lay_out-requires : goal.lay_out-requires
lay_out-requires c = (c.requires.0, length-replicate {A = ℕ} 272 0)

pub slice_bounds-room-end : goal.slice_bounds-room-end
slice_bounds-room-end c =
    let long : length c.lay_out.new.room ≡ 272 =
    omega (arith, c.lay_out.auto.room, length-replicate {A = ℕ} 272 0) in
    omega (arith, long)

pub slice_bounds-put-end : goal.slice_bounds-put-end
slice_bounds-put-end c =
    let long : length c.lay_out.new.room ≡ 272 =
    omega (arith, c.lay_out.auto.room, length-replicate {A = ℕ} 272 0) in
    sym (length-take-le 256 c.lay_out.new.room (omega (arith, long)))

pub returns : goal.returns
returns c =
    let long : length c.lay_out.new.room ≡ 272 =
    omega (arith, c.lay_out.auto.room, length-replicate {A = ℕ} 272 0) in
    let fills : length (take 256 c.lay_out.new.room) ≡ length c.args.buffer.now = length-take-le 256 c.lay_out.new.room (omega (arith, long)) ∙ sym c.requires.1 in
    put_whole _ _ fills c.put.ensures.room_after ∙ c.lay_out.ensures
