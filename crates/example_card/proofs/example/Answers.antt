-- `example_card::example` meets its contract: the empty record where no row of an object is told, and else the card chosen. Assumes nothing.
use borrow.Author.Tests.{le-leb, lt-leb}
use Rattle.example.specs.Cards.{example_of}
use Rattle.example_card.proofs.example.Goals as goal

pub returns-then-told-ge16 : goal.returns-then-told-ge16
unfolding example_of
returns-then-told-ge16 c = rw (← c.nested-told.ensures, le-leb _ _ c.if-told-ge16.true) c.empty.ensures

pub returns : goal.returns
unfolding example_of
returns c = rw (← c.nested-told.ensures, lt-leb _ _ c.if-told-ge16.false) c.chosen_card.ensures
