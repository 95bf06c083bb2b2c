-- `host::host` meets its contract: 20, or the answer at the start of the room. Assumes nothing.
use native.Mathlib.Nat.{add-sub_cancel_left}
use native.Mathlib.Omega.{arith}
use mathlib.Core.Path.{◌≡◌}
use borrow.Author.Tests.{eq-eqb, ne_eqb}
use lib.ListN.{length}
use Rattle.card.specs.Refusals.{gate}
use Rattle.host.specs.Hosting.{hosted_of, room_after}
use Rattle.host.proofs.Replies.{reply_long, room_is}
use Rattle.host.proofs.host.Goals as goal

pub returns-then-room-ne257 : goal.returns-then-room-ne257
unfolding hosted_of room_after gate
returns-then-room-ne257 c =
    let size : length c.args.room.now ≡ 257 → ⊥ = c.if-room-ne257.true in
    let other = ne_eqb _ _ size in
    record { value = rw (c.new.ensures, other); room_after = rw other }

pub returns : goal.returns
unfolding hosted_of room_after gate
returns c =
    let s = c.args.image.now in
    let a = c.ask-asked.result in
    let size = eq-eqb _ _ c.if-room-ne257.false in
    let long = reply_long s a c.ask-asked.ensures.count_in_bounds in
    let w = rw (add-sub_cancel_left a.start a.count) at c.put_answer-length.ensures in
    let r = room_is c.args.edition s c.args.command.now a c.ask-asked.ensures.value c.args.room.now _ _ w (omega (arith, long, c.if-room-ne257.false, c)) in
    record { value = rw (c.none.ensures, size, r.0); room_after = rw size r.1 }
