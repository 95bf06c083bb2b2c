-- `filling::put_record` meets its contract: the front, the objects behind it and the number fill the room. Assumes nothing.
use mathlib.Core.Path.{ap, ◌∙◌}
use mathlib.Core.List.{List, [], ◌∷◌, ◌++◌, append_assoc}
use Prim.Native.Nat.{ℕ}
use native.Mathlib.Omega.{arith}
use lib.ListN.{get_or}
use Rattle.ground.specs.Pieces.{joined}
use Rattle.ground.proofs.Puts.{put_there, put_then}
use Rattle.ground.proofs.Stores.{sets_whole}
use Rattle.card.specs.Content.{record_of}
use Rattle.card.specs.Frame.{free_of}
use Rattle.card.specs.Reading.{content_at}
use Rattle.reader_steps.specs.Steps.{values_at}
use Rattle.wire_records.specs.Records.{record_bytes}
use Rattle.calls_cards.specs.Calls.{value_bytes}
use Rattle.calls_read.proofs.Fills.{values_joined}
use Rattle.calls_read.proofs.put_record.Goals as goal

pub returns : goal.returns
unfolding record_bytes record_of content_at
returns c =
    let s = c.args.image.now in
    let vs = values_at s c.args.starts c.args.lengths in
    let at = c.put_front-start.ensures.value in
    let end = c.put_values-end.ensures.value in
    let number = put_there c.put_byte.ensures.value c.put_byte.ensures.room_after (omega (arith, c.requires, at, end)) in
    let all = put_then c.put_front-start.ensures.put (put_then c.put_values-end.ensures.put number) in
    let rest = joined value_bytes vs ++ (c.args.number ∷ []) in
    let full = sets_whole c.args.room.now ((get_or s 0 0 ∷ (free_of s ++ (get_or s 255 0 ∷ []))) ++ rest) (omega (arith, c.requires, all.place, at, end, number.place)) in
    let whole = ap (λ (l : List ℕ). get_or s 0 0 ∷ l) (append_assoc (free_of s) (get_or s 255 0 ∷ []) rest) in
    all.stored ∙ full ∙ whole ∙ ap (λ (l : List ℕ). get_or s 0 0 ∷ (free_of s ++ (get_or s 255 0 ∷ (l ++ (c.args.number ∷ []))))) (values_joined vs)
