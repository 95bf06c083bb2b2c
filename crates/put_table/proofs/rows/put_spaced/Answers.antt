-- `rows::put_spaced` meets its contract: two runs in a row are one. Assumes nothing.
use native.Mathlib.Omega.{arith}
use Rattle.ground.proofs.Puts.{put_there, put_then}
use mathlib.Core.List.{[], ◌∷◌}
use Rattle.ground.specs.Rooms.{Put}
use Rattle.table_text.specs.Texts.{spaced}
use Rattle.put_table.proofs.rows.put_spaced.Goals as goal

pub put_word-requires : goal.put_word-requires
put_word-requires c =
    let one : Put _ c.args.at (0x20 ∷ []) _ _ = put_there c.put_byte-start.ensures.value c.put_byte-start.ensures.room_after (omega arith) in
    (omega arith, omega (arith, one.place))

pub returns : goal.returns
unfolding spaced
returns c =
    let one : Put _ c.args.at (0x20 ∷ []) _ _ = put_there c.put_byte-start.ensures.value c.put_byte-start.ensures.room_after (omega arith) in
    record { put = put_then one c.put_word.ensures.put; upper_bound = omega (arith, one.place, c.put_word.ensures.upper_bound) }
