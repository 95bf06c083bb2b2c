-- `decoded` meets its contract, by those of its callees. Assumes nothing.
use Rattle.shipped_tables.proofs.decoded.Goals as goal

pub returns : goal.returns
returns c = rw (c.refuse_edition-refusal.ensures, c.edition_of-edition.ensures)
