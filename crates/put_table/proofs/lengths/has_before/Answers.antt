-- `lengths::has_before` meets its contract: before 0 there is none. Assumes nothing.
use mathlib.Core.Path.{◌∙◌}
use native.Mathlib.Omega.{arith}
use Rattle.table_text.specs.Texts.{has_before}
use Rattle.table_text.proofs.LengthLaws.{has_less}
use Rattle.put_table.proofs.lengths.has_before.Goals as goal

pub returns-then-n-eq0 : goal.returns-then-n-eq0
unfolding has_before
returns-then-n-eq0 c = rw c.if-n-eq0.true

pub returns : goal.returns
returns c = c.has.ensures ∙ has_less _ _ (omega arith)
