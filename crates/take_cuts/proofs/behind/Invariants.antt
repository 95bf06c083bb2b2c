-- `take_cuts::behind` meets its contract. The invariant: what is passed with what is left makes the whole. Assumes nothing.
use mathlib.Core.Path.{◌≡◌}
use Prim.Native.Nat.{◌+◌, ◌-◌, ◌≤◌}
use lib.ListN.{length, drop}
use Rattle.ground.specs.Lists.{leading}
use Rattle.table_take.specs.Splitting.{is_kind}
use Rattle.take_cuts.proofs.behind.Given as goal

abbrev pub invariant-loop-i : goal.invariant-loop-i
invariant-loop-i l = (l.i - length l.text ≤ l.at - length l.text) × (l.i + leading (is_kind l.kind) (drop l.i l.text) ≡ l.at + leading (is_kind l.kind) (drop l.at l.text))
