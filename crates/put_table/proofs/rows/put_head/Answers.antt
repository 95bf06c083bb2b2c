-- `rows::put_head` meets its contract: four runs in a row are one. Assumes nothing.
use native.Mathlib.Omega.{arith}
use Rattle.ground.proofs.Puts.{put_there, put_then}
use mathlib.Core.List.{[], ◌∷◌}
use Rattle.ground.specs.Rooms.{Put}
use Rattle.ground.proofs.Words.{decimal_short}
use Rattle.table_text.specs.Texts.{head_text}
use Rattle.put_table.proofs.rows.put_head.Goals as goal

pub returns : goal.returns
unfolding head_text
returns c =
    let two : Put _ c.put_word-behind_word.result (0x20 ∷ []) _ _ = put_there c.put_byte-start.ensures.value c.put_byte-start.ensures.room_after (omega (arith, c.put_word-behind_word.ensures.upper_bound)) in
    let short = decimal_short c.args.number in
    let three = put_there c.put_decimal-end.ensures.value c.put_decimal-end.ensures.room_after (omega (arith, c.put_word-behind_word.ensures.upper_bound, two.place)) in
    let four : Put _ c.put_decimal-end.result (0x0A ∷ []) _ _ = put_there c.put_byte.ensures.value c.put_byte.ensures.room_after (omega (arith, c.put_word-behind_word.ensures.upper_bound, two.place, three.place)) in
    record { put = put_then c.put_word-behind_word.ensures.put (put_then two (put_then three four)); upper_bound = omega (arith, c.put_word-behind_word.ensures.upper_bound, two.place, three.place, four.place) }
