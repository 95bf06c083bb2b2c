-- `table_words::start_of` meets its contract: its string is the list of the starts. Assumes nothing.
use Rattle.table_text.specs.Vocabulary.{starts}
use Rattle.table_words.proofs.start_of.Goals as goal

pub returns : goal.returns
unfolding starts
returns c = c.byte_at.ensures
