-- `lookup::part_at` meets its contract, by those of `byte_at` and `cut`. Assumes nothing.
use Rattle.lookup.proofs.part_at.Goals as goal

pub returns : goal.returns
returns c = rw (c.byte_at.ensures, c.byte_at-2.ensures) at c.cut.ensures
