-- `rows::put_front` meets its contract: two runs in a row are one, and a tag has two digits. Assumes nothing.
use native.Mathlib.Omega.{arith}
use Rattle.ground.proofs.Puts.{put_there, put_then}
use Rattle.ground.specs.Rooms.{Put, hex}
use Rattle.table_text.specs.Texts.{front_text}
use Rattle.put_table.proofs.rows.put_front.Goals as goal

pub put_spaced-requires : goal.put_spaced-requires
unfolding hex
put_spaced-requires c =
    let one : Put _ c.args.at (hex c.tag_of.result) _ _ = put_there c.put_hex-start.ensures.value c.put_hex-start.ensures.room_after (omega arith) in
    (omega arith, omega (arith, one.place))

pub returns : goal.returns
unfolding front_text hex
returns c =
    let one : Put _ c.args.at (hex c.tag_of.result) _ _ = put_there c.put_hex-start.ensures.value c.put_hex-start.ensures.room_after (omega arith) in
    record { put = rw c.tag_of.ensures at (put_then one c.put_spaced.ensures.put); upper_bound = omega (arith, one.place, c.put_spaced.ensures.upper_bound) }
