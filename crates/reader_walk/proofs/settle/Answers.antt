-- `reader_walk::settle` meets its contract: the table's own refusal, then what is refused behind the objects. Assumes nothing.
use mathlib.Core.Path.{◌∙◌}
use Rattle.reader_steps.proofs.Tables.{settle_own, settle_behind, settle_none}
use Rattle.reader_walk.proofs.settle.Goals as goal

pub returns-then-refusal-ne0 : goal.returns-then-refusal-ne0
returns-then-refusal-ne0 c = c.refused.ensures ∙ settle_own _ _ c.if-refusal-ne0.true

pub returns-then-behind-ne0 : goal.returns-then-behind-ne0
returns-then-behind-ne0 c =
    c.refused-then-behind-ne0.ensures ∙ settle_behind _ _ _ c.check_behind-behind.ensures c.if-refusal-ne0.false c.if-behind-ne0.true

pub returns : goal.returns
returns c = settle_none _ _ _ c.check_behind-behind.ensures c.if-refusal-ne0.false c.if-behind-ne0.false
