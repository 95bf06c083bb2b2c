-- `front` meets its contract, by that of `printed`. Assumes nothing.
use mathlib.Core.Path.{ap, ◌∙◌}
use Rattle.wire.specs.Answers.{packed}
use Rattle.calls_seen.proofs.printing.front.Goals as goal

pub returns : goal.returns
returns c = record { value = c.pack.ensures ∙ ap packed c.printed.ensures.value; room_after = c.printed.ensures.room_after }
