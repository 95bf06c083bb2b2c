-- `line_trims::count_blanks`: each byte passed is a blank. Assumes nothing.
use Prim.Native.Nat.{◌+◌}
use mathlib.Core.Path.{◌≡◌}
use lib.Dec.{eqb}
use lib.ListN.{drop}
use Rattle.ground.specs.Lists.{leading}
use Rattle.line_trims.proofs.count_blanks.Given as goal

abbrev pub invariant-loop-i : goal.invariant-loop-i
invariant-loop-i l = l.i + leading (eqb 0x20) (drop l.i l.line) ≡ leading (eqb 0x20) l.line
