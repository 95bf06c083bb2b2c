-- `example_lengths::row_at` meets its contract: past its end a list gives what is asked for in its place. Assumes nothing.
use native.Mathlib.Omega.{arith}
use mathlib.Core.Path.{sym}
use lib.ListN.{get_or-eq_default}
use Rattle.edition.specs.Rows.{no_row}
use Rattle.example_lengths.proofs.row_at.Goals as goal

pub returns : goal.returns
returns c = sym (get_or-eq_default c.args.rows no_row {n = c.args.k} (omega arith))
