-- `line_values::value_in`: the three parts, one within the other. Assumes nothing.
use mathlib.Core.Path.{ap, ◌∙◌}
use Rattle.card_lines.specs.Keys.{behind_blank, behind_colon}
use Rattle.line_values.proofs.value_in.Goals as goal

pub returns : goal.returns
returns c = c.behind_blank.ensures ∙ ap behind_blank (c.behind_colon.ensures ∙ ap behind_colon c.trimmed.ensures)
