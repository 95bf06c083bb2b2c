-- `length` meets its contract: what is told of the field is packed. Assumes nothing.
use mathlib.Core.Path.{ap, ◌∙◌}
use Rattle.calls_foreign.specs.Foreign.{packed_length}
use Rattle.calls_foreign.proofs.length.Goals as goal

pub returns : goal.returns
returns c = c.pack_length.ensures ∙ ap packed_length (c.told.ensures ∙ c.read_length.ensures.told)
