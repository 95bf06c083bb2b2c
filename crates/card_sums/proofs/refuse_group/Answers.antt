-- `card_sums::refuse_group` meets its contract: the group's first present object gives place and tag; none is refused where the sum fits. Assumes nothing.
use Rattle.card_sums.proofs.refuse_group.Goals as goal

pub returns : goal.returns
returns c = rw (c.new.ensures, c.tag_of.ensures, c.tag_before.ensures, c.start_of.ensures, c.first_present-row.ensures)
