-- `filling::put_values` meets its contract. The invariant: what is left to put, from value k on, makes the whole. Assumes nothing.
use mathlib.Core.Path.{◌≡◌}
use Prim.Native.Nat.{◌+◌, ◌*◌}
use lib.ListN.{length, drop}
use Rattle.ground.specs.Pieces.{joined}
use Rattle.ground.proofs.Puts.{Left}
use Rattle.reader_steps.specs.Steps.{values_at}
use Rattle.calls_cards.specs.Calls.{value_bytes}
use Rattle.calls_read.proofs.put_values.Given as goal

abbrev pub invariant-loop-k : goal.invariant-loop-k
invariant-loop-k l =
    (length l.room ≡ length l.initial.room) × (l.place ≡ l.at + l.k * 29)
    × Left l.initial.room l.at (joined value_bytes (values_at l.image l.starts l.lengths)) l.room l.place (joined value_bytes (drop l.k (values_at l.image l.starts l.lengths)))
