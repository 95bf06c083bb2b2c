-- `compare_none` meets its contract: a refusal that weighed nothing is spelled out, field by field. Assumes nothing.
use Rattle.calls_pairs.proofs.freshness.compare_none.Goals as goal

pub returns : goal.returns
returns c = rw c.new.ensures
