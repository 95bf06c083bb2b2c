-- `plan` meets its contract: the tests are those of the code, then by the contract of `plan`. Assumes nothing.
use mathlib.Core.Path.{refl, ap, ◌∙◌}
use borrow.Author.Tests.{eq-eqb, ne_eqb}
use Rattle.edition.specs.declared.Edition.{Edition}
use Rattle.card.specs.Refusals.{gate}
use Rattle.planning.specs.declared.Planned.{Planned}
use Rattle.planning.specs.Planning.{planned, room_after}
use Rattle.wire.specs.Answers.{packed, valued}
use Rattle.wire_tables.proofs.Sizes.{lent_edition_lem}
use Rattle.calls_plans.specs.Pulling.{kvk_plan, kvk_plan_room}
use Rattle.calls_plans.proofs.plan.Goals as goal

pub returns-then-room-ne257-clause-value : goal.returns-then-room-ne257-clause-value
unfolding gate kvk_plan kvk_plan_room
returns-then-room-ne257-clause-value c = rw (ne_eqb _ _ c.if-room-ne257.true) (c.pack.ensures ∙ ap packed c.new.ensures)

pub returns-then-room-ne257-clause-room_after : goal.returns-then-room-ne257-clause-room_after
unfolding gate kvk_plan kvk_plan_room
returns-then-room-ne257-clause-room_after c = rw (ne_eqb _ _ c.if-room-ne257.true) (refl)

pub returns-then-table-ne103-clause-value : goal.returns-then-table-ne103-clause-value
unfolding gate kvk_plan kvk_plan_room
returns-then-table-ne103-clause-value c =
    rw (eq-eqb _ _ c.if-room-ne257.false, ne_eqb _ _ c.if-table-ne103.true) (c.pack-then-table-ne103.ensures ∙ ap packed c.refuse_table.ensures)

pub returns-then-table-ne103-clause-room_after : goal.returns-then-table-ne103-clause-room_after
unfolding gate kvk_plan kvk_plan_room
returns-then-table-ne103-clause-room_after c =
    rw (eq-eqb _ _ c.if-room-ne257.false, ne_eqb _ _ c.if-table-ne103.true) (refl)

pub returns-clause-value : goal.returns-clause-value
unfolding gate kvk_plan kvk_plan_room
returns-clause-value c =
    let a = c.args in
    let is = c.edition_of.ensures ∙ lent_edition_lem _ c.if-table-ne103.false in
    rw (eq-eqb _ _ c.if-room-ne257.false, eq-eqb _ _ c.if-table-ne103.false) (c.pack_value.ensures ∙ ap (λ (x : Planned). valued x.refusal x.count) (c.plan-made.ensures.value ∙ ap (λ (e : Edition). planned e a.old.now a.new.now a.room.now) is))

pub returns-clause-room_after : goal.returns-clause-room_after
unfolding gate kvk_plan kvk_plan_room
returns-clause-room_after c =
    let a = c.args in
    let is = c.edition_of.ensures ∙ lent_edition_lem _ c.if-table-ne103.false in
    rw (eq-eqb _ _ c.if-room-ne257.false, eq-eqb _ _ c.if-table-ne103.false) (c.plan-made.ensures.room_after ∙ ap (λ (e : Edition). room_after e a.old.now a.new.now a.room.now) is)
