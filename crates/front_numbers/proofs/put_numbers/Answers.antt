-- `front_numbers::put_numbers` meets its contract: two fields and what is behind them, or nothing. Assumes nothing.
use mathlib.Core.Path.{sym, ◌∙◌}
use Prim.Native.Nat.{◌+◌, ◌≤◌}
use borrow.Author.Tests.{leb-true}
use lib.ListN.{length}
use Rattle.card.specs.Content.{content_of}
use Rattle.front.proofs.Placed.{none_put, heads_there, numbers_long, numbers_there}
use Rattle.front_numbers.proofs.put_numbers.Goals as goal

pub returns-then-not-has_places : goal.returns-then-not-has_places
returns-then-not-has_places c =
    record { value = (none_put _ _ _ 28 (sym c.has_places.ensures ∙ c.if-not-has_places.true) (numbers_long (content_of c.args.content))).0; room_after = (none_put _ _ _ 28 (sym c.has_places.ensures ∙ c.if-not-has_places.true) (numbers_long (content_of c.args.content))).1 }

pub put_state-requires : goal.put_state-requires
put_state-requires c =
    let room_for : c.args.at + 28 ≤ length c.args.room.now =
    leb-true _ _ (sym c.has_places.ensures ∙ c.if-not-has_places.false) in
    (heads_there _ _ (room_for) c.put_field-eighth.ensures.value c.put_field-eighth.ensures.room_after c.put_field-twentieth.ensures.value c.put_field-twentieth.ensures.room_after).1

pub returns : goal.returns
returns c =
    let room_for : c.args.at + 28 ≤ length c.args.room.now =
    leb-true _ _ (sym c.has_places.ensures ∙ c.if-not-has_places.false) in
    let heads = (heads_there _ _ (room_for) c.put_field-eighth.ensures.value c.put_field-eighth.ensures.room_after c.put_field-twentieth.ensures.value c.put_field-twentieth.ensures.room_after).0 in
    record { value = (numbers_there c.args.content (room_for) heads c.put_state.ensures).0; room_after = (numbers_there c.args.content (room_for) heads c.put_state.ensures).1 }
