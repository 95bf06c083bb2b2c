-- `trailer_of` meets its contract: the eight bytes are the definition's, with the checksum that `card_checksum` answers among them. Assumes nothing.
use Rattle.day.specs.Files.{trailer}
use Rattle.day_trailer.proofs.trailer_of.Goals as goal

pub returns : goal.returns
unfolding trailer
returns c = rw c.checksum.ensures
