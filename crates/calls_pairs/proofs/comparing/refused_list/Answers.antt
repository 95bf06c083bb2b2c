-- `comparing::refused_list` meets its contract: thirty zeros. Assumes nothing.
use Rattle.differences.specs.Answers.{thirty}
use Rattle.calls_pairs.proofs.comparing.refused_list.Goals as goal

pub returns : goal.returns
unfolding thirty
returns c = rw c.new.ensures
