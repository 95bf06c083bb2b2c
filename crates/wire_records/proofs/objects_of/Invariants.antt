-- `records::objects_of` meets its contract. The invariant: the objects passed are those of the pieces passed. Assumes nothing.
use mathlib.Core.Path.{◌≡◌}
use mathlib.Core.List.{map}
use lib.ListN.{length, take}
use Rattle.ground.specs.Pieces.{pieces}
use Rattle.wire_records.specs.Records.{object_from}
use Rattle.wire_records.proofs.objects_of.Given as goal

abbrev pub invariant-loop-k : goal.invariant-loop-k
invariant-loop-k l = (length l.objects ≡ 16) × (take l.k l.objects ≡ map object_from (pieces 29 l.k l.part))
