-- `planning::steps::put_changes` meets its contract. The invariant: what is left to put, from the i-th byte on, makes the whole. Assumes nothing.
use mathlib.Core.Path.{◌≡◌}
use Prim.Native.Nat.{◌+◌, ◌≤◌}
use lib.ListN.{length, drop}
use Rattle.ground.proofs.Puts.{Left}
use Rattle.planning.specs.Planning.{changes}
use Rattle.planning.proofs.steps.put_changes.Given as goal

abbrev pub invariant-loop-i : goal.invariant-loop-i
invariant-loop-i l =
    (length l.room ≡ length l.initial.room) × (l.count ≤ l.at + l.i) × Left l.initial.room l.at (changes l.base l.old l.new) l.room l.count (changes (l.base + l.i) (drop l.i l.old) (drop l.i l.new))
