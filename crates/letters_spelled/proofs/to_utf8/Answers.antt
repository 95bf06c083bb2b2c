-- `letters_spelled::to_utf8`: the invariant says that what is spelled and what is left make the whole; a put that did not move shows that the room is full. Assumes nothing.
use mathlib.Core.Path.{◌≡◌, sym, ◌∙◌}
use native.Mathlib.Omega.{arith}
use lib.ListN.{length}
use Rattle.letters.proofs.Spelt.{spelling_start, spelling_next, spelling_end, spelling_full, at_end, without, was_put}
use Rattle.ground.proofs.Puts.{put_there}
use Rattle.letters_spelled.proofs.to_utf8.Goals as goal

pub loop-taken-init : goal.loop-taken-init
loop-taken-init c = spelling_start _ _

pub shape_of-room-then-not-has_letter : goal.shape_of-room-then-not-has_letter
shape_of-room-then-not-has_letter c = c.loop-taken.invariant.same

pub returns-then-not-has_letter : goal.returns-then-not-has_letter
returns-then-not-has_letter c =
    let l = c.loop-taken.invariant in
    record { value = (spelling_end l (without l c.loop-taken-test.true (sym c.has_letter.ensures ∙ c.if-not-has_letter.true))).0; room_after = (spelling_end l (without l c.loop-taken-test.true (sym c.has_letter.ensures ∙ c.if-not-has_letter.true))).1 }

pub shape_of-room-then-end-made : goal.shape_of-room-then-end-made
shape_of-room-then-end-made c = c.put_letter-end.auto.room ∙ c.loop-taken.invariant.same

pub returns-then-end-made : goal.returns-then-end-made
returns-then-end-made c =
    let l = c.loop-taken.invariant in
    let more = c.loop-taken-test.true in
    let put = c.put_letter-end.ensures in
    let has = sym c.has_letter.ensures ∙ c.if-not-has_letter.false in
    record { value = (spelling_full l more has put.value put.room_after c.if-end-made.true).0; room_after = (spelling_full l more has put.value put.room_after c.if-end-made.true).1 }

pub loop-taken-preserved : goal.loop-taken-preserved
loop-taken-preserved c =
    let l = c.loop-taken.invariant in
    let more = c.loop-taken-test.true in
    let put = c.put_letter-end.ensures in
    let has = sym c.has_letter.ensures ∙ c.if-not-has_letter.false in
    let fits = was_put _ _ _ put.value c.if-end-made.false in
    spelling_next l more has fits (put_there put.value put.room_after fits)

pub shape_of-room : goal.shape_of-room
shape_of-room c = c.loop-taken.invariant.same

pub returns : goal.returns
returns c =
    let l = c.loop-taken.invariant in
    let all : length c.args.bytes.now ≡ c.loop-taken.taken = omega arith in
    let end = spelling_end l (at_end l c.loop-taken-test.false) in
    record { value = rw all end.0; room_after = end.1 }
