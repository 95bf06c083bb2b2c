-- `line_values::behind_colon`: a colon is found, or the end. Assumes nothing.
use Rattle.card_lines.proofs.Cuts.{colon_none, colon_there}
use Rattle.line_values.proofs.behind_colon.Goals as goal

pub returns-then-colon-line : goal.returns-then-colon-line
returns-then-colon-line c = colon_none _ _ c.find-colon.ensures.value c.if-colon-line.true

pub returns : goal.returns
returns c = colon_there _ _ c.find-colon.ensures.value
