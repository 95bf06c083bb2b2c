-- `listing::object_lines::put_objects` meets its contract. The invariant: what is left to write from the i-th object on makes the whole. Assumes nothing.
use mathlib.Core.List.{map}
use Prim.Native.Nat.{◌+◌, ◌*◌, ◌≤◌}
use Rattle.card.specs.Layout.{object_tags}
use Rattle.listing.specs.Listing.{object_lines}
use Rattle.listing.specs.Rooms.{shown}
use Rattle.ground.proofs.Puts.{Left}
use Rattle.listing.proofs.Lines.{from}
use Rattle.listing.proofs.object_lines.put_objects.Given as goal

abbrev pub invariant-loop-i : goal.invariant-loop-i
invariant-loop-i l = (l.place ≤ l.at + l.i * 32) × Left l.initial.room l.at (object_lines object_tags (map shown l.item-items)) l.room l.place (from l.i l.item-items)
