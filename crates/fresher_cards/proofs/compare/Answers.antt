-- `compare` meets its contract: both cards are looked at, whether the edition dates them is asked, and the rest is weighed: the definition with these three answers in it. Assumes nothing.
use Rattle.fresher.specs.Comparing.{fresher_of}
use Rattle.fresher_cards.proofs.compare.Goals as goal

pub returns : goal.returns
unfolding fresher_of
returns c = rw (← c.look-a.ensures, ← c.look-b.ensures, ← c.is_dated.ensures) c.weigh.ensures
