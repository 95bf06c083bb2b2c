-- `writer::body::write_objects` meets its contract. The invariant: what stands in front of the place, and what is left from the i-th object on, make the whole. Assumes nothing.
use mathlib.Core.Path.{◌≡◌}
use mathlib.Core.List.{◌++◌}
use Prim.Native.Nat.{◌+◌}
use lib.ListN.{length, take}
use Rattle.card.specs.Content.{content_of}
use Rattle.card.specs.Layout.{objects_of}
use Rattle.wire_records.specs.Records.{lent_record}
use Rattle.object_sizes.proofs.Items.{from}
use Rattle.writer.proofs.body.write_objects.Given as goal

abbrev pub invariant-loop-i : goal.invariant-loop-i
invariant-loop-i l =
    (length l.room ≡ length l.initial.room) × (l.place + length (from l.i (lent_record l.bytes).objects) ≡ l.at + length (objects_of (content_of (lent_record l.bytes))))
    × (take l.place l.room ++ from l.i (lent_record l.bytes).objects ≡ take l.at l.initial.room ++ objects_of (content_of (lent_record l.bytes)))
