-- `text_objects::objects_of`: the objects passed are those listed. Assumes nothing.
use mathlib.Core.Path.{◌≡◌}
use lib.ListN.{length, take}
use Rattle.card_text.specs.Records.{listed, object_at}
use Rattle.text_objects.proofs.objects_of.Given as goal

abbrev pub invariant-loop-i : goal.invariant-loop-i
invariant-loop-i l = (length l.objects ≡ 16) × (take l.i l.objects ≡ listed l.i (object_at l.text))
