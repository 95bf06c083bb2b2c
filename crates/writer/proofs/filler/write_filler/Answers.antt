-- `writer::filler::write_filler` meets its contract: its runs of stores make the filler, and end where the part ends. Assumes nothing.
use mathlib.Core.Path.{◌≡◌, ◌∙◌}
use Prim.Native.Nat.{ℕ, ◌+◌, ◌-◌}
use native.Mathlib.Omega.{arith}
use lib.ListN.{length, length-set, replicate, length-replicate}
use Rattle.ground.specs.Rooms.{Put}
use Rattle.ground.proofs.Puts.{put_there, put_stored}
use Rattle.card.proofs.Room.{room}
use Rattle.writer.proofs.Fillers.{Placed, placed, filled}
use Rattle.writer.proofs.filler.write_filler.Goals as goal

pub write_length-start-requires : goal.write_length-start-requires
write_length-start-requires c =
    let r = room (length c.args.part.now - 1) (omega arith) (omega arith) in
    (simp length-set (omega arith), omega arith)

pub overflow_sub-size : goal.overflow_sub-size
overflow_sub-size c =
    let known : Placed (length c.args.part.now - 1) c.count_spaces-count.result c.write_length-start.result =
    placed (length c.args.part.now - 1) _ _ (omega arith) (omega arith) c.count_spaces-count.ensures c.write_length-start.ensures.value in
    let long : length c.write_length-start.new.buffer ≡ length c.args.part.now =
    simp length-set at c.write_length-start.auto.buffer in
    let spaced : Put c.write_length-start.new.buffer c.write_length-start.result (replicate c.count_spaces-count.result 0x20) c.fill-end.new.room c.fill-end.result =
    let k = known in
    let l = long in
    let n = length-replicate {A = ℕ} c.count_spaces-count.result 0x20 in
    put_there c.fill-end.ensures.value c.fill-end.ensures.room_after (omega (arith, k.ends, n, l, c)) in
    let k = known in
    let n = length-replicate {A = ℕ} c.count_spaces-count.result 0x20 in
    omega (arith, (spaced).place, k.ends, n, c)

pub shape_of-part : goal.shape_of-part
shape_of-part c =
    let long : length c.write_length-start.new.buffer ≡ length c.args.part.now =
    simp length-set at c.write_length-start.auto.buffer in
    let l = long in omega arith

pub returns : goal.returns
returns c =
    let known : Placed (length c.args.part.now - 1) c.count_spaces-count.result c.write_length-start.result =
    placed (length c.args.part.now - 1) _ _ (omega arith) (omega arith) c.count_spaces-count.ensures c.write_length-start.ensures.value in
    let long : length c.write_length-start.new.buffer ≡ length c.args.part.now =
    simp length-set at c.write_length-start.auto.buffer in
    let spaced : Put c.write_length-start.new.buffer c.write_length-start.result (replicate c.count_spaces-count.result 0x20) c.fill-end.new.room c.fill-end.result =
    let k = known in
    let l = long in
    let n = length-replicate {A = ℕ} c.count_spaces-count.result 0x20 in
    put_there c.fill-end.ensures.value c.fill-end.ensures.room_after (omega (arith, k.ends, n, l, c)) in
    let a = c.args in
    let k = known in
    let l = long in
    let s = spaced in
    let n = length-replicate {A = ℕ} c.count_spaces-count.result 0x20 in
    let e : c.fill-end.result ≡ c.write_length-start.result + c.count_spaces-count.result = s.place ∙ omega arith in
    let d = c.fill-end.auto.room ∙ l in
    let rest = length-replicate {A = ℕ} (length a.part.now - c.fill-end.result) a.last in
    filled a.part.now (length c.args.part.now - 1) _ _ _ a.last k (omega arith) e c.write_length-start.ensures.buffer_after s.stored
    (put_stored _ _ _ (omega (arith, rest, d, e, k.ends)) c.fill.ensures.room_after)
