-- `refuse_room` meets its contract: the size is divided, so that nothing overflows: so many cards fit exactly where 270 bytes for each and 8 more do. Assumes nothing.
use mathlib.Core.Path.{sym, ◌∙◌}
use Prim.Native.Nat.{◌+◌, ◌*◌}
use native.Mathlib.Omega.{arith}
use borrow.Author.Tests.{lt-leb, le-leb}
use Rattle.day.specs.Calls.{room_refusal}
use Rattle.day.proofs.Opens.{gate_on, gate_off}
use Rattle.day_limits.proofs.refuse_room.Goals as goal

pub returns-then-size-lt8 : goal.returns-then-size-lt8
unfolding room_refusal
returns-then-size-lt8 c =
    let a = c.args in
    c.new.ensures ∙ sym (gate_off _ _ (lt-leb (a.count * 270 + 8) a.size (omega arith)))

pub returns-then-size-count : goal.returns-then-size-count
unfolding room_refusal
returns-then-size-count c =
    let a = c.args in
    c.new-then-size-count.ensures ∙ sym (gate_off _ _ (lt-leb (a.count * 270 + 8) a.size (omega arith)))

pub returns : goal.returns
unfolding room_refusal
returns c =
    let a = c.args in
    c.none.ensures ∙ sym (gate_on _ _ (le-leb (a.count * 270 + 8) a.size (omega arith)))
