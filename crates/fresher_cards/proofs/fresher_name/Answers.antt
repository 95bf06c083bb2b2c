-- `fresher_name` meets its contract: the name is that of what `compare` answers. Assumes nothing.
use Rattle.fresher_cards.proofs.fresher_name.Goals as goal

pub returns : goal.returns
returns c = rw (← c.compare-fresher.ensures) c.name.ensures
