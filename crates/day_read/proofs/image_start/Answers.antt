-- `image_start` meets its contract: a position that is not refused is below the count of a framed file, so that its address does not overflow. Assumes nothing.
use mathlib.Core.Path.{sym, ap, ◌∙◌}
use native.Mathlib.Omega.{arith}
use Rattle.card.specs.declared.Refusal.{Refusal}
use Rattle.day.proofs.Sizes.{answered_ok, answered_err}
use Rattle.day.proofs.Positions.{Placed, placed, refused_start, told_start}
use Rattle.day_read.proofs.image_start.Goals as goal

pub returns-then-refusal-ne0 : goal.returns-then-refusal-ne0
returns-then-refusal-ne0 c =
    let a = c.args in
    answered_err _ c.if-refusal-ne0.true 0 ∙ refused_start a.file.now a.position c.check_position-refusal.result c.check_position-refusal.ensures c.if-refusal-ne0.true

pub overflow_mul-result : goal.overflow_mul-result
overflow_mul-result c =
    let place : Placed c.args.file.now c.args.position =
    placed _ _ (sym (ap (λ (x : Refusal). x.number) c.check_position-refusal.ensures) ∙ c.if-refusal-ne0.false) in
    omega (arith, (place).there, (place).file.frame.most)

pub returns : goal.returns
returns c =
    let a = c.args in
    answered_ok _ c.if-refusal-ne0.false _ ∙ told_start a.file.now a.position c.check_position-refusal.result c.check_position-refusal.ensures
