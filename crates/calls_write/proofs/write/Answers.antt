-- `write` meets its contract, by that of `written`. Assumes nothing.
use mathlib.Core.Path.{ap, ◌∙◌}
use Rattle.wire.specs.Answers.{packed}
use Rattle.calls_write.proofs.write.Goals as goal

pub returns : goal.returns
returns c = record { value = c.pack.ensures ∙ ap packed c.written.ensures.value; image_after = c.written.ensures.image_after }
