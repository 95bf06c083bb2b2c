-- `name` meets its contract: the name is cut from the card that the answer names. Assumes nothing.
use Rattle.fresher_cards.proofs.name.Goals as goal

pub returns-then-fresher : goal.returns-then-fresher
returns-then-fresher c = rw c.if-fresher.true c.cut.ensures

pub returns : goal.returns
returns c = rw c.if-fresher.false c.cut-2.ensures
