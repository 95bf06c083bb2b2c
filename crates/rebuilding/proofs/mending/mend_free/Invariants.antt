-- `rebuilding::mending::mend_free` meets its contract. The invariant: the first i bytes are those of the whole. Assumes nothing.
use mathlib.Core.Path.{◌≡◌}
use lib.ListN.{length, take}
use Rattle.differences.specs.Differences.{free_addresses}
use Rattle.rebuilding.specs.Rebuilding.{names_address, mended}
use Rattle.rebuilding.proofs.mending.mend_free.Given as goal

abbrev pub invariant-loop-i : goal.invariant-loop-i
invariant-loop-i l =
    (length l.free ≡ 12) × (l.addresses ≡ free_addresses) × (length l.first ≡ 12) × (length l.second ≡ 12) × (take l.i l.free ≡ take l.i (mended (names_address l.entries) free_addresses l.first l.second))
