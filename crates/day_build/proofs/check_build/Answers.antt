-- `day_build::check_build` meets its contract: 40, then what the images tell, then 45. Assumes nothing.
use mathlib.Core.Path.{sym, ap, ap₂, ◌∙◌}
use native.Mathlib.Omega.{arith}
use Rattle.card.specs.declared.Refusal.{Refusal}
use Rattle.card.specs.Refusals.{or_else}
use Rattle.card.proofs.Chains.{neither}
use Rattle.day.proofs.Builds.{build_odd, build_even}
use borrow.Author.Rules.{rules}
use Rattle.day_build.proofs.check_build.Goals as goal

pub returns-then-images-ne0 : goal.returns-then-images-ne0
returns-then-images-ne0 c =
    let a = c.args in
    let f = ap (λ (x : Refusal). x.number) c.new.ensures in
    record { value = c.new.ensures ∙ sym (build_odd a.images.now a.size c.if-images-ne0.true); index_after = λ z. absurd (omega arith) }

pub returns : goal.returns
returns c =
    let a = c.args in
    let w = c.or_else.ensures in record { value = w ∙ ap₂ or_else c.gather-refusal.ensures.value c.refuse_room-small.ensures ∙ sym (build_even a.images.now a.size c.if-images-ne0.false); index_after = λ z. c.gather-refusal.ensures.room_after_2 (neither c.gather-refusal.result c.refuse_room-small.result (sym (ap (λ (x : Refusal). x.number) w) ∙ z)).first (search rules) }
