-- `rebuilding::mending::mend_objects` meets its contract. The invariant: the first i objects are those of the whole. Assumes nothing.
use mathlib.Core.Path.{◌≡◌}
use lib.ListN.{length, take}
use Rattle.card.specs.Layout.{object_tags}
use Rattle.rebuilding.specs.Rebuilding.{names_tag, mended}
use Rattle.rebuilding.proofs.mending.mend_objects.Given as goal

abbrev pub invariant-loop-i : goal.invariant-loop-i
invariant-loop-i l =
    (length l.objects ≡ 16) × (length l.first ≡ 16) × (length l.second ≡ 16) × (take l.i l.objects ≡ take l.i (mended (names_tag l.entries) object_tags l.first l.second))
