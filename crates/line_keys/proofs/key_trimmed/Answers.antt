-- `line_keys::key_trimmed`: the tests are those of the definition. Assumes nothing.
use mathlib.Core.Path.{◌∙◌}
use Rattle.card_lines.proofs.Cuts.{key_blank, key_remark, key_none, key_there}
use Rattle.line_keys.proofs.key_trimmed.Goals as goal

pub returns-then-line-eq0 : goal.returns-then-line-eq0
returns-then-line-eq0 c = key_blank _ c.if-line-eq0.true

pub returns-then-line-eq35 : goal.returns-then-line-eq35
returns-then-line-eq35 c = key_remark _ c.if-line-eq0.false c.if-line-eq35.true

pub returns-then-colon-line : goal.returns-then-colon-line
returns-then-colon-line c = key_none _ _ c.find-colon.ensures.value c.if-line-eq0.false c.if-line-eq35.false c.if-colon-line.true

pub returns : goal.returns
returns c = c.key_named.ensures ∙ key_there _ _ c.find-colon.ensures.value c.if-line-eq0.false c.if-line-eq35.false c.if-colon-line.false
