-- `rows::put_set` meets its contract: three runs in a row are one. Assumes nothing.
use native.Mathlib.Omega.{arith}
use mathlib.Core.List.{[], ◌∷◌}
use Rattle.ground.specs.Rooms.{Put}
use Rattle.ground.proofs.Puts.{put_there, put_then}
use Rattle.table_text.specs.Texts.{set_text}
use Rattle.put_table.proofs.rows.put_set.Goals as goal

pub put_lengths-end-requires : goal.put_lengths-end-requires
put_lengths-end-requires c =
    let one : Put _ c.args.at (0x20 ∷ []) _ _ = put_there c.put_byte-start.ensures.value c.put_byte-start.ensures.room_after (omega arith) in
    omega (arith, one.place)

pub returns : goal.returns
unfolding set_text
returns c =
    let one : Put _ c.args.at (0x20 ∷ []) _ _ = put_there c.put_byte-start.ensures.value c.put_byte-start.ensures.room_after (omega arith) in
    let three : Put _ c.put_lengths-end.result (0x0A ∷ []) _ _ = put_there c.put_byte.ensures.value c.put_byte.ensures.room_after (omega (arith, one.place, c.put_lengths-end.ensures.upper_bound)) in
    record { put = put_then one (put_then c.put_lengths-end.ensures.put three); upper_bound = omega (arith, one.place, c.put_lengths-end.ensures.upper_bound, three.place) }
