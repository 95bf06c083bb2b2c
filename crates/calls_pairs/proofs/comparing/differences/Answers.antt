-- `differences` meets its contract: a room of another size is left, and else holds the list that was found. Assumes nothing.
use mathlib.Core.Path.{refl, ap, ◌∙◌}
use borrow.Author.Tests.{eq-eqb, ne_eqb}
use Rattle.card.specs.Refusals.{gate}
use Rattle.differences.specs.declared.Differences.{Differences}
use Rattle.wire.specs.Answers.{packed, valued}
use Rattle.calls_pairs.specs.Comparing.{kvk_differences, kvk_differences_room}
use Rattle.calls_pairs.proofs.comparing.differences.Goals as goal

pub returns-then-room-ne30-clause-value : goal.returns-then-room-ne30-clause-value
unfolding gate kvk_differences kvk_differences_room
returns-then-room-ne30-clause-value c =
    rw (ne_eqb _ 30 c.if-room-ne30.true) (c.pack.ensures ∙ ap packed c.new.ensures)

pub returns-then-room-ne30-clause-room_after : goal.returns-then-room-ne30-clause-room_after
unfolding gate kvk_differences kvk_differences_room
returns-then-room-ne30-clause-room_after c =
    rw (ne_eqb _ 30 c.if-room-ne30.true) (refl)

pub returns-clause-value : goal.returns-clause-value
unfolding gate kvk_differences kvk_differences_room
returns-clause-value c =
    rw (eq-eqb _ _ c.if-room-ne30.false) (c.pack_value.ensures ∙ ap (λ (x : Differences). valued x.refusal x.count) c.compared-found.ensures)

pub returns-clause-room_after : goal.returns-clause-room_after
unfolding gate kvk_differences kvk_differences_room
returns-clause-room_after c =
    rw (eq-eqb _ _ c.if-room-ne30.false) (c.copy_from_slice.ensures.after ∙ ap (λ (x : Differences). x.entries) c.compared-found.ensures)
