-- `printed` meets its contract: the size of the record, then by the contract of the front. Assumes nothing.
use mathlib.Core.Path.{refl}
use borrow.Author.Tests.{eq-eqb, ne_eqb}
use Rattle.card.specs.Refusals.{gate}
use Rattle.wire_records.proofs.Sizes.{lent_record_lem}
use Rattle.front.specs.Refusing.{room_printed}
use Rattle.calls_seen.specs.Printing.{kvk_front, kvk_front_room}
use Rattle.calls_seen.proofs.printing.printed.Goals as goal

pub returns-then-bytes-ne479-clause-value : goal.returns-then-bytes-ne479-clause-value
unfolding gate kvk_front kvk_front_room
returns-then-bytes-ne479-clause-value c = rw (ne_eqb _ 479 c.if-bytes-ne479.true) (c.new.ensures)

pub returns-then-bytes-ne479-clause-room_after : goal.returns-then-bytes-ne479-clause-room_after
unfolding gate kvk_front kvk_front_room
returns-then-bytes-ne479-clause-room_after c = rw (ne_eqb _ 479 c.if-bytes-ne479.true) (refl)

pub returns : goal.returns
unfolding gate kvk_front kvk_front_room room_printed
returns c =
    rw (eq-eqb _ 479 c.if-bytes-ne479.false) (rw (c.record_of.ensures, lent_record_lem _ c.if-bytes-ne479.false) at c.print.ensures)
