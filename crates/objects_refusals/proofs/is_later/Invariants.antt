-- `objects_refusals::is_later` meets its contract. The invariant: the tag is among those after k exactly if it is among those from j on. Assumes nothing.
use mathlib.Core.Path.{◌≡◌}
use Prim.Native.Nat.{suc}
use lib.ListN.{drop}
use Rattle.ground.specs.Lists.{among}
use Rattle.edition.specs.Rows.{tags}
use Rattle.objects_refusals.proofs.is_later.Given as goal

abbrev pub invariant-loop-j : goal.invariant-loop-j
invariant-loop-j l = among l.b (drop l.j tags) ≡ among l.b (drop (suc l.k) tags)
