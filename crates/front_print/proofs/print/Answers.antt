-- `front_print::print` meets its contract: a refused record leaves the room, and one that is not refused has its places there. Assumes nothing.
use mathlib.Core.Path.{sym, ap, ◌∙◌}
use lib.ListN.{length}
use Rattle.card.specs.declared.Refusal.{Refusal}
use Rattle.card.specs.Content.{content_of}
use Rattle.front.proofs.Taken.{taken}
use Rattle.front.proofs.Gates.{free, kept, filled}
use Rattle.front_print.proofs.print.Goals as goal

pub returns-then-refusal-ne0 : goal.returns-then-refusal-ne0
returns-then-refusal-ne0 c =
    let a = c.args in
    record { value = c.refuse-refusal.ensures; room_after = kept a.fund (content_of a.content) a.room.now (λ z. c.if-refusal-ne0.true (ap (λ (r : Refusal). r.number) c.refuse-refusal.ensures ∙ z)) }

pub put_lines-requires : goal.put_lines-requires
put_lines-requires c =
    let a = c.args in
    let f = free a.fund (content_of a.content) (length a.room.now) (ap (λ (r : Refusal). r.number) (sym c.refuse-refusal.ensures) ∙ c.if-refusal-ne0.false) in
    ((taken (content_of a.content) f.own).fits, f.sized)

pub returns : goal.returns
returns c =
    let a = c.args in
    record { value = c.refuse-refusal.ensures; room_after = c.put_lines.ensures ∙ filled a.fund (content_of a.content) a.room.now (ap (λ (r : Refusal). r.number) (sym c.refuse-refusal.ensures) ∙ c.if-refusal-ne0.false) }
