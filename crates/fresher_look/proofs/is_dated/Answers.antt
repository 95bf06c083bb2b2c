-- `fresher_look::is_dated` meets its contract: row 15 is that of 8D. Assumes nothing.
use Rattle.fresher_look.proofs.is_dated.Goals as goal

pub returns : goal.returns
returns c = c.is_expiry.ensures
