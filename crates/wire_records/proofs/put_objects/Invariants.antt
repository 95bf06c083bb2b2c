-- `records::put_objects` meets its contract. The invariant: what is left to put, from object k on, makes the whole. Assumes nothing.
use mathlib.Core.Path.{◌≡◌}
use Prim.Native.Nat.{ℕ, ◌+◌, ◌*◌, ◌<◌}
use lib.ListN.{length, get_or, drop}
use Rattle.ground.specs.Pieces.{joined}
use Rattle.ground.proofs.Puts.{Left}
use Rattle.card.specs.Content.{no_object}
use Rattle.wire_records.specs.Records.{object_bytes}
use Rattle.wire_records.proofs.put_objects.Given as goal

abbrev pub invariant-loop-item : goal.invariant-loop-item
invariant-loop-item l =
    (length l.room ≡ length l.initial.room) × (l.place ≡ l.at + l.item-index * 29) × Left l.initial.room l.at (joined object_bytes l.fn.content.objects) l.room l.place (joined object_bytes (drop l.item-index l.fn.content.objects))
    × ((j : ℕ) → j < l.item-index → length (get_or l.fn.content.objects j no_object).bytes ≡ 28)
