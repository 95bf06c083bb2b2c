-- `text_entries::value`: what is behind the colon of the line found; an empty line says nothing. Assumes nothing.
use mathlib.Core.Path.{ap}
use Rattle.ground.specs.Lists.{leading}
use Rattle.card_lines.specs.Lines.{without_return, without_blanks}
use Rattle.card_lines.specs.Keys.{behind_blank, behind_colon, value_in}
use Rattle.text_entries.proofs.value.Goals as goal

pub returns-in-None : goal.returns-in-None
unfolding leading without_return without_blanks behind_colon behind_blank
returns-in-None c = ap value_in c.in-None.ensures.line
