-- `count` meets its contract: what the trailer says is answered behind the refusal of the file, which clears it. Assumes nothing.
use mathlib.Core.Path.{ap₂, ◌∙◌}
use Rattle.day.specs.Calls.{answered, count_answer}
use Rattle.day_read.proofs.count.Goals as goal

pub returns : goal.returns
unfolding count_answer
returns c = c.answer_of.ensures ∙ ap₂ answered c.check.ensures c.count_in.ensures
