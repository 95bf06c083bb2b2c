-- `take_cuts::is_kind` meets its contract: the tests of `of_kind`. Assumes nothing.
use Rattle.table_take.specs.Splitting.{is_kind}
use Rattle.take_cuts.proofs.is_kind.Goals as goal

pub returns : goal.returns
unfolding is_kind
returns c = c.of_kind.ensures
