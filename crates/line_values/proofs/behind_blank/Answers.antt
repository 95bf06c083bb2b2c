-- `line_values::behind_blank`: nothing, a blank, or another byte at the head. Assumes nothing.
use Rattle.card_lines.proofs.Cuts.{blank_none, blank_first, blank_other}
use Rattle.line_values.proofs.behind_blank.Goals as goal

pub returns-then-part-eq0 : goal.returns-then-part-eq0
returns-then-part-eq0 c = blank_none _ c.if-part-eq0.true

pub returns-then-part-eq32 : goal.returns-then-part-eq32
returns-then-part-eq32 c = blank_first _ c.if-part-eq32.true

pub returns : goal.returns
returns c = blank_other _ c.if-part-eq32.false
