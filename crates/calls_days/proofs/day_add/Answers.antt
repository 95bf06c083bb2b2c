-- `day_add` meets its contract. Assumes nothing.
use mathlib.Core.Path.{ap, ◌∙◌}
use Rattle.calls_days.specs.Days.{day_packed}
use Rattle.calls_days.proofs.day_add.Goals as goal

pub returns : goal.returns
returns c = record { value = c.packed_day.ensures ∙ ap day_packed c.add.ensures.value; room_after = c.add.ensures.room_after }
