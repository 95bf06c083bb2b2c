-- `line_names::put_name`: the lines of the byte string are the names. Assumes nothing.
use Rattle.card_lines.specs.Lines.{lines}
use Rattle.card_lines.specs.Keys.{names}
use Rattle.line_names.proofs.put_name.Goals as goal

pub returns : goal.returns
unfolding lines names
returns c = c.put_line.ensures
