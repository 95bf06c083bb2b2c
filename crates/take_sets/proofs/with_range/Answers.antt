-- `take_sets::with_range` meets its contract. The invariant: the lengths that are left, with the set so far, make the set. Assumes nothing.
use mathlib.Core.Path.{sym, ◌∙◌}
use native.Mathlib.Omega.{arith}
use Rattle.table_take.proofs.Ranges.{range_next, range_end}
use Rattle.take_sets.proofs.with_range.Goals as goal

pub loop-n-preserved : goal.loop-n-preserved
loop-n-preserved c = range_next c.loop-n.all c.loop-n.n c.args.last (omega arith) (omega arith) ∙ c.loop-n.invariant

pub returns : goal.returns
returns c = sym (range_end c.loop-n.all c.loop-n.n c.args.last (omega arith)) ∙ c.loop-n.invariant
