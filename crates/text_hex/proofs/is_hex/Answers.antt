-- `text_hex::is_hex`: the two tests of the definition. Assumes nothing.
use Rattle.text_hex.proofs.is_hex.Goals as goal

pub returns : goal.returns
returns c = rw c.count_digits.ensures
