-- `example_record::card_of` meets its contract: what is no object is written out, and the objects are those of the values. Assumes nothing.
use Rattle.card.specs.Content.{record_of}
use Rattle.example.specs.Cards.{card_of}
use Rattle.example_record.proofs.card_of.Goals as goal

pub returns : goal.returns
unfolding record_of card_of
returns c = rw c.objects_of.ensures
