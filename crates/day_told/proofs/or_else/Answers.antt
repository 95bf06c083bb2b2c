-- `or_else` meets its contract: the chain stops at a refusal with a number and goes on at one without. Assumes nothing.
use mathlib.Core.Path.{sym}
use Rattle.day.proofs.Opens.{or_stop, or_on}
use Rattle.day_told.proofs.or_else.Goals as goal

pub returns-then-first-ne0 : goal.returns-then-first-ne0
returns-then-first-ne0 c = sym (or_stop _ _ c.if-first-ne0.true)

pub returns : goal.returns
returns c = sym (or_on _ _ c.if-first-ne0.false)
