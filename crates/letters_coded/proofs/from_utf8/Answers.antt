-- `letters_coded::from_utf8`: the invariant says that what is left of the code is that of what is left of the text, with what has been begun of a letter. Assumes nothing.
use mathlib.Core.Path.{sym, ◌∙◌}
use Rattle.letters.proofs.Coded.{coding_start, coding_next, coding_begun, coding_stop, code_end, coding_answer, coding_full, coding_end}
use Rattle.letters_coded.proofs.from_utf8.Goals.{then-byte-ne0, else-byte-ne0+then-begun-is_first}
use Rattle.letters_coded.proofs.from_utf8.Goals as goal

pub loop-at-init : goal.loop-at-init
loop-at-init c = coding_start _ _

pub shape_of-room-then-made-room : goal.shape_of-room-then-made-room
shape_of-room-then-made-room c = c.loop-at.invariant.same

pub returns-then-made-room : goal.returns-then-made-room
returns-then-made-room c =
    let l = c.loop-at.invariant in
    record { value = (coding_answer l (coding_full l c.if-made-room.true)).0; room_after = (coding_answer l (coding_full l c.if-made-room.true)).1 }

pub loop-at-preserved : goal.loop-at-preserved
loop-at-preserved c =
    let l = c.loop-at.invariant in
    let told = c.byte_for-byte.ensures in
    elim c.if-byte-ne0.branch [
      | then-byte-ne0 w ↦
          rw (w.room-is, w.taken-is, w.made-is, w.begun-is, told) (coding_next l c.loop-at-test.true (λ z. w.if-byte-ne0.true (told ∙ z)) c.if-made-room.false)
      | else-byte-ne0+then-begun-is_first w ↦
          rw (w.room-is, w.taken-is, w.made-is, w.begun-is)
          (coding_begun l c.loop-at-test.true (sym told ∙ w.if-byte-ne0.false) (rw w.is_first.ensures at w.if-begun-is_first.true))
    ]

pub shape_of-room-else-begun-is_first : goal.shape_of-room-else-begun-is_first
shape_of-room-else-begun-is_first c = c.loop-at.invariant.same

pub returns-else-begun-is_first : goal.returns-else-begun-is_first
returns-else-begun-is_first c =
    let l = c.loop-at.invariant in
    let none = sym c.byte_for-byte.ensures ∙ c.if-byte-ne0.false in
    record { value = (coding_answer l (coding_end l (coding_stop l c.loop-at-test.true none (rw c.is_first.ensures at c.if-begun-is_first.false)))).0; room_after = (coding_answer l (coding_end l (coding_stop l c.loop-at-test.true none (rw c.is_first.ensures at c.if-begun-is_first.false)))).1 }

pub shape_of-room : goal.shape_of-room
shape_of-room c = c.loop-at.invariant.same

pub returns : goal.returns
returns c = record { value = (coding_answer c.loop-at.invariant (coding_end c.loop-at.invariant (code_end _ _ _ c.loop-at-test.false))).0; room_after = (coding_answer c.loop-at.invariant (coding_end c.loop-at.invariant (code_end _ _ _ c.loop-at-test.false))).1 }
