-- `writer::fields::write_length` meets its contract: a length up to 255 takes at most two bytes, and they fit. Assumes nothing.
use native.Mathlib.Omega.{arith}
use Rattle.ground.proofs.Puts.{put_there}
use Rattle.card.proofs.Layouts.{length_field_lem}
use Rattle.writer.proofs.fields.write_length.Goals as goal

pub returns : goal.returns
returns c =
    let e = c.put_length.ensures in
    let a = c.args in
    let put = put_there e.value e.room_after (omega (arith, (length_field_lem a.n (omega arith)).1)) in
    record { value = put.place; buffer_after = put.stored }
