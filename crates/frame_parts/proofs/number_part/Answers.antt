-- `frame_parts::number_part` meets its contract: the parts of the tail, one behind the other. Assumes nothing.
use Prim.Native.Nat.{ℕ, ◌-◌}
use mathlib.Core.Path.{ap}
use native.Mathlib.Omega.{arith}
use lib.ListN.{length}
use Rattle.lengths.specs.Lengths.{length_field}
use Rattle.card.proofs.Room.{room}
use Rattle.frame.proofs.Tails.{in_tag, in_length, in_spaces, in_last}
use Rattle.frame_parts.proofs.number_part.Goals as goal

pub returns-then-at-eq0 : goal.returns-then-at-eq0
returns-then-at-eq0 c =
    in_tag _ _ _ _ c.count_spaces-spaces.ensures c.lead_size-start.ensures c.if-at-eq0.true

pub returns-then-at-start : goal.returns-then-at-start
returns-then-at-start c =
    in_length _ _ _ _ c.count_spaces-spaces.ensures c.lead_size-start.ensures c.if-at-eq0.false c.if-at-start.true

pub overflow_add-start : goal.overflow_add-start
overflow_add-start c =
    let counted = c.count_spaces-spaces.ensures in
    let r = room (c.args.size - 1) (omega arith) (omega arith) in
    let f = ap (λ (n : ℕ). length (length_field n)) counted in
    omega (arith, r.small, r.field, f, counted, c.lead_size-start.ensures)

pub returns-then-at-start-2 : goal.returns-then-at-start-2
returns-then-at-start-2 c =
    in_spaces _ _ _ _ c.count_spaces-spaces.ensures c.lead_size-start.ensures c.if-at-eq0.false c.if-at-start.false c.if-at-start-2.true

pub returns : goal.returns
returns c =
    in_last _ _ _ _ c.count_spaces-spaces.ensures c.lead_size-start.ensures c.if-at-eq0.false c.if-at-start-2.false
