-- `rows::put_row` meets its contract: the six bytes of a row, put at once. Assumes nothing.
use mathlib.Core.Path.{◌≡◌, refl}
use mathlib.Core.Bool.{Bool, true, false, cond}
use native.Mathlib.Omega.{arith}
use mir.Val.{bool_byte}
use Rattle.ground.proofs.Puts.{put_there}
use Rattle.wire_tables.specs.Tables.{row_bytes}
use Rattle.wire_tables.proofs.put_row.Goals as goal

as_number : (t : Bool) → bool_byte t ≡ cond t 1 0
as_number true = refl
as_number false = refl

pub returns : goal.returns
unfolding row_bytes
returns c =
    rw (← as_number, ← c.number_of.ensures) (put_there c.put.ensures.value c.put.ensures.room_after (omega arith))
