-- `example_narrow::narrow` meets its contract: each pick is a test of the definition. Assumes nothing.
use Rattle.example.specs.Cards.{narrow}
use Rattle.example_narrow.proofs.narrow.Goals as goal

pub returns : goal.returns
unfolding narrow
returns c = rw (c.pick.ensures, c.pick-present.ensures, c.pick-values.ensures, c.number_of.ensures)
