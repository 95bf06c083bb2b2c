-- `look` meets its contract: each field is read off the table of places. Assumes nothing.
use Rattle.fresher.specs.Comparing.{card_of}
use Rattle.fresher_look.proofs.look.Goals as goal

pub returns : goal.returns
unfolding card_of
returns c = rw (c.validity_in.ensures, c.part_at-validity.ensures, c.places-table.ensures)
