-- `answer_of` meets its contract: the number is compared with 0 in the code as in the definition, so each branch computes. Assumes nothing.
use borrow.Author.Tests.{eq-eqb, ne_eqb}
use Rattle.day.specs.Calls.{answered}
use Rattle.day_told.proofs.answer_of.Goals as goal

pub returns-then-refusal-ne0 : goal.returns-then-refusal-ne0
unfolding answered
returns-then-refusal-ne0 c = rw (ne_eqb _ _ c.if-refusal-ne0.true)

pub returns : goal.returns
unfolding answered
returns c = rw (eq-eqb _ _ c.if-refusal-ne0.false)
