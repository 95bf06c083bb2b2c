-- `example_narrow::part_of` meets its contract, by its test. Assumes nothing.
use borrow.Author.Tests.{eq-eqb, ne_eqb}
use Rattle.example.specs.Cards.{part_of}
use Rattle.example_narrow.proofs.part_of.Goals as goal

pub returns-then-k-told : goal.returns-then-k-told
unfolding part_of
returns-then-k-told c = rw (eq-eqb _ _ c.if-k-told.true)

pub returns : goal.returns
unfolding part_of
returns c = rw (ne_eqb _ _ c.if-k-told.false)
