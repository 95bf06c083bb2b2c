-- `example_lengths::length_at` meets its contract: each piece is that of the definition. Assumes nothing.
use Rattle.example.specs.Cards.{length_at}
use Rattle.example_lengths.proofs.length_at.Goals as goal

pub returns : goal.returns
unfolding length_at
returns c = rw (c.by_place.ensures, c.place_of.ensures, c.three_at-three.ensures, c.start_of.ensures.value)
