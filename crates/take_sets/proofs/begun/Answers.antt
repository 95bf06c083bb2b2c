-- `take_sets::begun` meets its contract: what is wrong is what `range_fault` tells. Assumes nothing.
use Rattle.table_take.specs.LengthSets.{begun}
use Rattle.take_sets.proofs.begun.Goals as goal

pub returns : goal.returns
unfolding begun
returns c = rw c.range_fault.ensures
