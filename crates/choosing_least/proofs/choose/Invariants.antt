-- `choosing_least::choose` meets its contract. The invariant: the best so far weighs least of the numbers passed, and its weight is kept beside it. Assumes nothing.
use Prim.Native.Nat.{◌-◌}
use Rattle.choosing.specs.Choices.{weight_at}
use Rattle.choosing.proofs.Least.{Kept}
use Rattle.choosing_least.proofs.choose.Given as goal

abbrev pub invariant-loop-code : goal.invariant-loop-code
invariant-loop-code l =
    Kept (weight_at l.long l.names l.a l.b l.c) l.best l.least l.code
