-- `take_words::with_presence` meets its contract: what its calls tell. Assumes nothing.
use Rattle.table_take.specs.Words.{with_presence}
use Rattle.take_words.proofs.with_presence.Goals as goal

pub returns : goal.returns
unfolding with_presence
returns c = rw (c.fault.ensures, c.is_word.ensures, c.is_word-required.ensures)
