-- `write_fresher` meets its contract: a room of another size is left. Assumes nothing.
use borrow.Author.Tests.{eq-eqb, ne_eqb}
use Rattle.fresher.specs.Bytes.{fresher_room}
use Rattle.fresher_bytes.proofs.write_fresher.Goals as goal

pub returns-then-room-eq8 : goal.returns-then-room-eq8
unfolding fresher_room
returns-then-room-eq8 c = rw (eq-eqb _ _ c.if-room-eq8.true) c.fill.ensures

pub returns-else-room-eq8 : goal.returns-else-room-eq8
unfolding fresher_room
returns-else-room-eq8 c = rw (ne_eqb _ _ c.if-room-eq8.false)
