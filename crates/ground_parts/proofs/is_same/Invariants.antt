-- `ground_parts::is_same` meets its contract. The invariant: what is told so far, with what is left, tells of the whole. Assumes nothing.
use mathlib.Core.Path.{◌≡◌}
use mathlib.Core.Bool.{◌&&◌}
use lib.Dec.{eqb}
use lib.ListN.{length}
use Rattle.ground.specs.Lists.{same_list}
use Rattle.ground_parts.proofs.is_same.Given as goal

abbrev pub invariant-loop-p : goal.invariant-loop-p
invariant-loop-p l =
    let part = l.p-iterator.a.rest.now in
    let want = l.p-iterator.b.rest.now in
    (length part ≡ length want) × ((eqb l.difference 0 && same_list part want) ≡ same_list l.part l.want)
