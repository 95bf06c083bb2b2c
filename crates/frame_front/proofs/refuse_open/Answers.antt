-- `frame_front::refuse_open` meets its contract: the first three links of the chain, each where those before it refuse nothing. Assumes nothing.
use borrow.Author.Tests.{ne_eqb}
use Rattle.card.specs.Refusals.{gate, or_else}
use Rattle.frame.specs.Checks.{open_refusal}
use Rattle.frame_front.proofs.refuse_open.Goals as goal

pub returns-then-image-ne256 : goal.returns-then-image-ne256
unfolding open_refusal gate or_else
returns-then-image-ne256 c = rw (ne_eqb _ 256 c.if-image-ne256.true) c.new.ensures

pub returns-then-edition-ne0 : goal.returns-then-edition-ne0
unfolding open_refusal gate or_else
returns-then-edition-ne0 c = rw (c.if-image-ne256.false, ne_eqb _ _ c.if-edition-ne0.true)

pub returns : goal.returns
unfolding open_refusal gate or_else
returns c = rw (c.if-image-ne256.false, c.if-edition-ne0.false) c.refuse_front.ensures
