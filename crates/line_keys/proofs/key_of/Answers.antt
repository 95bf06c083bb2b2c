-- `line_keys::key_of`: the key of the line without its blanks. Assumes nothing.
use mathlib.Core.Path.{ap, ◌∙◌}
use Rattle.card_lines.specs.Keys.{key_trimmed}
use Rattle.line_keys.proofs.key_of.Goals as goal

pub returns : goal.returns
returns c = c.key_trimmed.ensures ∙ ap key_trimmed c.trimmed.ensures
