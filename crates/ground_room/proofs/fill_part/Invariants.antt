-- `ground_room::fill_part` meets its contract: the bytes behind the index are as they were. Assumes nothing.
use mathlib.Core.Path.{◌≡◌}
use mathlib.Core.List.{◌++◌}
use lib.ListN.{drop, replicate}
use Rattle.ground_room.proofs.fill_part.Given as goal

abbrev pub invariant-loop-x : goal.invariant-loop-x
invariant-loop-x l = l.part ≡ replicate l.x-index l.byte ++ drop l.x-index l.initial.part
