-- `planning::plan` meets its contract, by its tests. Assumes nothing.
use mathlib.Core.Path.{sym, ap, ◌∙◌}
use Rattle.card.specs.declared.Refusal.{Refusal}
use Rattle.rewriting.proofs.Refused.{input_in}
use Rattle.planning.proofs.Passing.{planned_room, planned_refused, planned_done}
use Rattle.planning.proofs.plan.Goals as goal

pub returns-then-room-ne257 : goal.returns-then-room-ne257
returns-then-room-ne257 c =
    let a = c.args in
    record { value = (planned_room a.edition a.old.now a.new.now a.room.now c.if-room-ne257.true c.new.result c.new.ensures).0; room_after = (planned_room a.edition a.old.now a.new.now a.room.now c.if-room-ne257.true c.new.result c.new.ensures).1 }

pub returns-then-refusal-ne0 : goal.returns-then-refusal-ne0
returns-then-refusal-ne0 c =
    let a = c.args in
    let r = c.refuse_input-refusal in
    record { value = (planned_refused a.edition a.old.now a.new.now a.room.now c.if-room-ne257.false r.result r.ensures c.if-refusal-ne0.true).0; room_after = (planned_refused a.edition a.old.now a.new.now a.room.now c.if-room-ne257.false r.result r.ensures c.if-refusal-ne0.true).1 }

pub put_plan-requires : goal.put_plan-requires
put_plan-requires c =
    let a = c.args in
    let r = c.refuse_input-refusal in
    let i = input_in a.edition a.old.now a.new.now (sym (ap (λ (x : Refusal). x.number) r.ensures) ∙ c.if-refusal-ne0.false) in
    (c.if-room-ne257.false, i.old_size, i.new_size)

pub returns : goal.returns
returns c =
    let a = c.args in
    let r = c.refuse_input-refusal in
    let p = c.put_plan in
    record {
      value = (planned_done a.edition a.old.now a.new.now a.room.now c.if-room-ne257.false r.result r.ensures c.if-refusal-ne0.false
          c.none.result c.none.ensures p.result p.new.room p.ensures).0;
      room_after = (planned_done a.edition a.old.now a.new.now a.room.now c.if-room-ne257.false r.result r.ensures c.if-refusal-ne0.false
          c.none.result c.none.ensures p.result p.new.room p.ensures).1;
    }
