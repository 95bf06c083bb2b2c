-- `Refusal::of_length` meets its contract: the ends told are those of the set handed in. Assumes nothing.
use Rattle.card.proofs.Refusal.of_length.Goals as goal

pub returns : goal.returns
returns c = rw (c.shortest.ensures, c.longest.ensures)
