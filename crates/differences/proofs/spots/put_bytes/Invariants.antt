-- `differences::spots::put_bytes` meets its contract. The invariant: what is left to put, from the i-th address on, makes the whole. Assumes nothing.
use mathlib.Core.Path.{◌≡◌}
use Prim.Native.Nat.{◌+◌, ◌≤◌}
use lib.ListN.{length}
use Rattle.ground.proofs.Puts.{Left}
use Rattle.differences.specs.Steps.{byte_words}
use Rattle.differences.proofs.Words.{bytes_from}
use Rattle.differences.proofs.spots.put_bytes.Given as goal

abbrev pub invariant-loop-address : goal.invariant-loop-address
invariant-loop-address l =
    (length l.room ≡ length l.initial.room) × (l.count ≤ l.at + l.address-index) × Left l.initial.room l.at (byte_words l.first l.second) l.room l.count (bytes_from l.address-index l.first l.second)
