-- `image_at` meets its contract: a position that is not refused has its 256 bytes within a framed file; else the part is empty. Assumes nothing.
use mathlib.Core.Path.{sym, ap, ◌∙◌}
use native.Mathlib.Omega.{arith}
use Rattle.card.specs.declared.Refusal.{Refusal}
use Rattle.day.proofs.Positions.{Placed, placed, refused_image, told_image}
use Rattle.day_read.proofs.image_at.Goals as goal

pub returns-then-refusal-ne0 : goal.returns-then-refusal-ne0
returns-then-refusal-ne0 c =
    let a = c.args in
    refused_image a.file.now a.position c.check_position-refusal.result c.check_position-refusal.ensures c.if-refusal-ne0.true

pub overflow_mul-at : goal.overflow_mul-at
overflow_mul-at c =
    let place : Placed c.args.file.now c.args.position =
    placed _ _ (sym (ap (λ (x : Refusal). x.number) c.check_position-refusal.ensures) ∙ c.if-refusal-ne0.false) in
    omega (arith, (place).there, (place).file.frame.most)

pub overflow_add-end : goal.overflow_add-end
overflow_add-end c =
    let place : Placed c.args.file.now c.args.position =
    placed _ _ (sym (ap (λ (x : Refusal). x.number) c.check_position-refusal.ensures) ∙ c.if-refusal-ne0.false) in
    omega (arith, (place).there, (place).file.frame.most)

pub slice_bounds-result-end-2 : goal.slice_bounds-result-end-2
slice_bounds-result-end-2 c =
    let place : Placed c.args.file.now c.args.position =
    placed _ _ (sym (ap (λ (x : Refusal). x.number) c.check_position-refusal.ensures) ∙ c.if-refusal-ne0.false) in
    omega (arith, (place).there, (place).file.frame.size)

pub returns : goal.returns
returns c =
    let a = c.args in
    told_image a.file.now a.position c.check_position-refusal.result c.check_position-refusal.ensures c.if-refusal-ne0.false
