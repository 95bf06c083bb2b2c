-- `take_words::with_lengths` meets its contract: what `lengths_of` tells. Assumes nothing.
use Rattle.table_take.specs.Words.{with_lengths}
use Rattle.take_words.proofs.with_lengths.Goals as goal

pub returns : goal.returns
unfolding with_lengths
returns c = rw c.lengths_of-listed.ensures
