-- `example_objects::objects_of` meets its contract. The invariant: the objects so far are those of the first k rows. Assumes nothing.
use Prim.Native.Nat.{◌-◌, ◌≤◌}
use mathlib.Core.Path.{◌≡◌}
use mathlib.Core.List.{map}
use lib.ListN.{length, take}
use Rattle.card.specs.Content.{object_of}
use Rattle.example.specs.Cards.{listed, value_at}
use Rattle.example_objects.proofs.objects_of.Given as goal

abbrev pub invariant-loop-k : goal.invariant-loop-k
invariant-loop-k l = (length l.object-items ≡ 16) × (take l.k l.object-items ≡ map object_of (listed l.k (value_at l.inner l.outer l.rows l.told l.long)))
