-- `take_cuts::is_remark` meets its contract: behind the blanks stands a sign, or nothing. Assumes nothing.
use native.Mathlib.Omega.{arith}
use Rattle.table_take.proofs.Splits.{remark_at, remark_none}
use Rattle.take_cuts.proofs.is_remark.Goals as goal

pub returns-then-start-line : goal.returns-then-start-line
returns-then-start-line c = remark_at _ _ c.behind-start.ensures.value (omega arith)

pub returns-else-start-line : goal.returns-else-start-line
returns-else-start-line c = remark_none _ _ c.behind-start.ensures.value (omega arith)
