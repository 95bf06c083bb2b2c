-- `reader_places::places` meets its contract: the refusal that is handed on is the edition's. Assumes nothing.
use Rattle.reader_places.proofs.places.Goals as goal

pub returns : goal.returns
returns c = c.places_under.ensures.value_2 c.refuse_edition-known.ensures
