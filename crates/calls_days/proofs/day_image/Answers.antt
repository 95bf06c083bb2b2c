-- `day_image` meets its contract. Assumes nothing.
use mathlib.Core.Path.{ap, ◌∙◌}
use Rattle.calls_days.specs.Days.{day_packed}
use Rattle.calls_days.proofs.day_image.Goals as goal

pub returns : goal.returns
returns c = c.packed_day.ensures ∙ ap day_packed c.image_start.ensures
