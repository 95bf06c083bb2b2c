-- `rules_kinds::worst_of` meets its contract. The invariant: with what is passed in `worst`, the rest tells what the whole tells. Assumes nothing.
use mathlib.Core.Path.{◌≡◌}
use lib.ListN.{drop}
use Rattle.rules.specs.Kinds.{worst_in}
use Rattle.rules_kinds.proofs.worst_of.Given as goal

abbrev pub invariant-loop-b : goal.invariant-loop-b
invariant-loop-b l = worst_in l.kinds l.worst (drop l.b-index l.v) ≡ worst_in l.kinds 0 l.v
