-- `take_words::is_tag` meets its contract: the two digits fill their room. Assumes nothing.
use mathlib.Core.Path.{refl, ap, ◌∙◌}
use Rattle.ground.specs.Lists.{same_list}
use Rattle.ground.specs.Rooms.{hex}
use Rattle.ground.proofs.Puts.{put_whole}
use Rattle.take_words.proofs.is_tag.Goals as goal

pub returns : goal.returns
unfolding hex
returns c = c.is_same.ensures ∙ ap (same_list _) (put_whole _ (hex c.tag_of.result) refl c.put_hex.ensures.room_after ∙ ap hex c.tag_of.ensures)
