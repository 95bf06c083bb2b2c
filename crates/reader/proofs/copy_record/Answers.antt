-- `reader::copy_record` meets its contract: head, tail and the places of the values are the parts of the content. Assumes nothing.
use Rattle.card.specs.Content.{record_of}
use Rattle.card.specs.Reading.{content_at}
use Rattle.reader.proofs.copy_record.Goals as goal

pub returns : goal.returns
unfolding record_of content_at
returns c = rw (c.copy_objects.ensures, c.copy_free.ensures)
