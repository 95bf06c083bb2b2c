-- `rows::write_table` meets its contract: the rows and the number behind them fill the room. Assumes nothing.
use mathlib.Core.Path.{sym, ◌∙◌}
use native.Mathlib.Omega.{arith}
use borrow.Author.Tests.{ne_eqb}
use Rattle.ground.proofs.Puts.{put_there, put_then}
use Rattle.ground.proofs.Stores.{sets_whole}
use Rattle.wire_tables.specs.Tables.{table_bytes, table_room}
use Rattle.wire_tables.proofs.Sizes.{table_room_lem}
use Rattle.wire_tables.proofs.write_table.Goals as goal

pub returns-then-room-ne103 : goal.returns-then-room-ne103
unfolding table_room
returns-then-room-ne103 c = rw (ne_eqb _ 103 c.if-room-ne103.true)

pub returns : goal.returns
unfolding table_bytes
returns c =
    let end = c.put_rows-place.ensures.value in
    let number = put_there c.put_byte.ensures.value c.put_byte.ensures.room_after (omega (arith, end)) in
    let all = put_then c.put_rows-place.ensures.put number in
    let full = sets_whole c.args.room.now (table_bytes c.args.edition) (omega (arith, all.place, number.place, end)) in
    all.stored ∙ full ∙ sym (table_room_lem c.args.edition _ (omega arith))
