-- `records::write_record` meets its contract: the ends, the objects behind them and the number fill the room. Assumes nothing.
use mathlib.Core.Path.{◌≡◌, sym, ap, ◌∙◌}
use mathlib.Core.List.{List, [], ◌∷◌, ◌++◌, append_assoc}
use Prim.Native.Nat.{ℕ}
use native.Mathlib.Omega.{arith}
use borrow.Author.Tests.{ne_eqb}
use lib.ListN.{length, length-append}
use Rattle.ground.specs.Pieces.{joined}
use Rattle.ground.proofs.Puts.{put_there, put_then}
use Rattle.ground.proofs.Stores.{sets_whole}
use Rattle.wire_records.specs.Records.{lent_record, object_bytes, record_bytes, record_room}
use Rattle.wire_records.proofs.Sizes.{record_room_lem}
use Rattle.wire_records.proofs.RecordsBack.{Whole, each_held, record_lent}
use Rattle.wire_records.proofs.write_record.Goals as goal

pub returns-then-room-ne479 : goal.returns-then-room-ne479
unfolding record_room
returns-then-room-ne479 c = record { room_after = rw (ne_eqb _ 479 c.if-room-ne479.true); room_after_2 = λ n. absurd (c.if-room-ne479.true n) }

pub returns : goal.returns
unfolding record_bytes
returns c =
    let sixteen : length c.args.content.objects ≡ 16 = omega arith in
    let r = c.args.content in
    let at = c.put_ends-start.ensures.value in
    let end = c.put_objects-end.ensures.value in
    let number = put_there c.put_byte.ensures.value c.put_byte.ensures.room_after (omega (arith, at, end)) in
    let all = put_then c.put_ends-start.ensures.put (put_then c.put_objects-end.ensures.put number) in
    let rest = joined object_bytes r.objects ++ (r.number ∷ []) in
    let full = sets_whole c.args.room.now ((r.first ∷ (r.free ++ (r.last ∷ []))) ++ rest) (omega (arith, all.place, at, end, number.place)) in
    let whole = ap (λ (l : List ℕ). r.first ∷ l) (append_assoc r.free (r.last ∷ []) rest) in
    let free : length r.free ≡ 12 = omega (arith, at, c.put_ends-start.ensures.put.place, length-append r.free (r.last ∷ [])) in
    let held : Whole r = record { free_bytes = free; object_count = sixteen; object_bytes_lem = each_held r.objects (λ j h. c.put_objects-end.ensures.by_index j (omega (arith, sixteen))) } in
    let is = all.stored ∙ full ∙ whole in
    record { room_after = is ∙ sym (record_room_lem r _ (omega arith)); room_after_2 = λ n. ap lent_record is ∙ record_lent r held }
