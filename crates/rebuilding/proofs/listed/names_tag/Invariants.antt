-- `rebuilding::listed::names_tag` meets its contract. The invariant: the tag is among those of the list exactly where it is among what is left of them. Assumes nothing.
use mathlib.Core.Path.{◌≡◌}
use mathlib.Core.List.{map}
use lib.ListN.{drop}
use Rattle.ground.specs.Lists.{among}
use Rattle.rebuilding.specs.Rebuilding.{tag_in}
use Rattle.rebuilding.proofs.listed.names_tag.Given as goal

abbrev pub invariant-loop-entry : goal.invariant-loop-entry
invariant-loop-entry l = among l.tag (drop l.entry-index (map tag_in l.entries)) ≡ among l.tag (map tag_in l.entries)
