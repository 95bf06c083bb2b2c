-- `fresher` meets its contract: a room of another size is left. Assumes nothing.
use mathlib.Core.Path.{refl, ap, ◌∙◌}
use borrow.Author.Tests.{eq-eqb, ne_eqb}
use Rattle.card.specs.Refusals.{gate}
use Rattle.fresher.specs.declared.Fresher.{Fresher}
use Rattle.wire.specs.Answers.{packed}
use Rattle.fresher.specs.Bytes.{fresher_bytes, fresher_room}
use Rattle.calls_pairs.specs.Fresher.{kvk_fresher, kvk_fresher_room}
use Rattle.calls_pairs.proofs.freshness.fresher.Goals as goal

pub returns-then-room-ne8-clause-value : goal.returns-then-room-ne8-clause-value
unfolding gate kvk_fresher kvk_fresher_room
returns-then-room-ne8-clause-value c =
    rw (ne_eqb _ 8 c.if-room-ne8.true) (c.pack.ensures ∙ ap packed c.new.ensures)

pub returns-then-room-ne8-clause-room_after : goal.returns-then-room-ne8-clause-room_after
unfolding gate kvk_fresher kvk_fresher_room
returns-then-room-ne8-clause-room_after c =
    rw (ne_eqb _ 8 c.if-room-ne8.true) (refl)

pub returns-clause-value : goal.returns-clause-value
unfolding gate kvk_fresher kvk_fresher_room fresher_room
returns-clause-value c =
    rw (eq-eqb _ _ c.if-room-ne8.false) (c.pack-2.ensures ∙ ap (λ (x : Fresher). packed x.refusal) c.compared-fresher.ensures)

pub returns-clause-room_after : goal.returns-clause-room_after
unfolding gate kvk_fresher kvk_fresher_room fresher_room
returns-clause-room_after c =
    rw (eq-eqb _ _ c.if-room-ne8.false) (rw (eq-eqb _ _ c.if-room-ne8.false) at c.write_fresher.ensures ∙ ap fresher_bytes c.compared-fresher.ensures)
