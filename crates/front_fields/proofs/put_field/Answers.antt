-- `front_fields::put_field` meets its contract: what has no places is not put. Assumes nothing.
use mathlib.Core.Path.{sym, ◌∙◌}
use Prim.Native.Nat.{◌+◌, ◌≤◌}
use lib.ListN.{length}
use native.Mathlib.Omega.{arith}
use borrow.Author.Tests.{leb-true, leb-false}
use Rattle.front.proofs.Placed.{field_in, field_out, field_wide}
use Rattle.front_fields.proofs.put_field.Goals as goal

pub returns-then-places-gt28 : goal.returns-then-places-gt28
returns-then-places-gt28 c = record { value = (field_wide _ _ _ _ (omega arith)).0; room_after = (field_wide _ _ _ _ (omega arith)).1 }

pub returns-then-not-has_places : goal.returns-then-not-has_places
returns-then-not-has_places c = record { value = (field_out _ _ _ _ (leb-false _ _ (sym c.has_places.ensures ∙ c.if-not-has_places.true))).0; room_after = (field_out _ _ _ _ (leb-false _ _ (sym c.has_places.ensures ∙ c.if-not-has_places.true))).1 }

pub put_places-requires : goal.put_places-requires
put_places-requires c =
    let room_for : c.args.at + c.args.places ≤ length c.args.room.now =
    leb-true _ _ (sym c.has_places.ensures ∙ c.if-not-has_places.false) in
    (omega arith, room_for)

pub returns : goal.returns
returns c =
    let room_for : c.args.at + c.args.places ≤ length c.args.room.now =
    leb-true _ _ (sym c.has_places.ensures ∙ c.if-not-has_places.false) in
    record { value = (field_in _ _ (omega arith) (room_for) c.put_places.ensures).0; room_after = (field_in _ _ (omega arith) (room_for) c.put_places.ensures).1 }
