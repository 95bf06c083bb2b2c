-- `text_objects::object_of`: the first 28 of the bytes made, and how many were made. Assumes nothing.
use Rattle.card_text.proofs.Told.{object_told}
use Rattle.text_objects.proofs.object_of.Goals as goal

pub returns : goal.returns
returns c = object_told _ _ c.from_utf8-turned.ensures.value _ _ c.from_utf8-turned.ensures.room_after c.put.ensures.room_after
