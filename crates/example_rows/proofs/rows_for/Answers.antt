-- `example_rows::rows_for` meets its contract: one row is stored anew, and none where none is told. Assumes nothing.
use native.Mathlib.Omega.{arith}
use mathlib.Core.Path.{sym}
use lib.Seq.{set_out}
use Rattle.example.specs.Cards.{rows_for}
use Rattle.example_rows.proofs.rows_for.Goals as goal

pub returns-then-at-ge17 : goal.returns-then-at-ge17
unfolding rows_for
returns-then-at-ge17 c = sym (set_out _ _ _ (omega arith))

pub returns : goal.returns
unfolding rows_for
returns c = rw c.narrow.ensures
