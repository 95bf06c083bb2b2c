-- `lengths_of` meets its contract. The invariant: below i stand the lengths of the values. Assumes nothing.
use mathlib.Core.Path.{◌≡◌}
use mathlib.Core.List.{[]}
use Prim.Native.Nat.{ℕ, ◌<◌}
use lib.ListN.{length, get_or}
use Rattle.card.specs.Content.{content_of}
use Rattle.wire_records.specs.Records.{lent_record}
use Rattle.object_sizes.proofs.lengths_of.Given as goal

abbrev pub invariant-loop-i : goal.invariant-loop-i
invariant-loop-i l =
    (length l.lengths ≡ 16) × ((k : ℕ) → k < l.i → get_or l.lengths k 0 ≡ length (get_or (content_of (lent_record l.bytes)).values k []))
