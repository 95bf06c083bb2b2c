-- `line_trims::without_return`: nothing, a carriage return, or another byte at the end. Assumes nothing.
use Rattle.card_lines.proofs.Cuts.{return_none, return_last, return_other}
use Rattle.line_trims.proofs.without_return.Goals as goal

pub returns-then-end-eq0 : goal.returns-then-end-eq0
returns-then-end-eq0 c = return_none _ c.if-end-eq0.true

pub returns-then-line-end-eq13 : goal.returns-then-line-end-eq13
returns-then-line-end-eq13 c = return_last _ c.if-line-end-eq13.true

pub returns : goal.returns
returns c = return_other _ c.if-line-end-eq13.false
