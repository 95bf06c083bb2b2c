-- `edition::Edition::formed` meets its contract. The invariant: the rows passed are well formed, so the answer is that of the rows from `i` on;
-- the loop stops before the last row, which alone is asked to be that of the checksum. Assumes nothing.
use mathlib.Core.Path.{◌≡◌}
use lib.ListN.{drop}
use Rattle.edition.specs.Rows.{formed_from}
use Rattle.edition.proofs.Edition.formed.Given as goal

abbrev pub invariant-loop-i : goal.invariant-loop-i
invariant-loop-i l = formed_from l.i (drop l.i l.fn.self.rows) ≡ formed_from 0 l.fn.self.rows
