-- `find` meets its contract: the file's refusal is told before anything is looked for; a file that is accepted is framed, so its index is the part between images and trailer. Assumes nothing.
use mathlib.Core.Path.{◌≡◌, sym, ap, ◌∙◌}
use mathlib.Core.List.{List}
use Prim.Native.Nat.{ℕ}
use native.Mathlib.Omega.{arith}
use Rattle.card.specs.declared.Refusal.{Refusal}
use Rattle.day.specs.Files.{file_refusal}
use Rattle.day.proofs.Frames.{Framed}
use Rattle.day.proofs.Sizes.{answered_err}
use Rattle.day.proofs.Opens.{opened, index_lent}
use Rattle.day.proofs.Finding.{find_file, find_told, refused_find}
use Rattle.day_find.proofs.find.Goals as goal

-- a file that the check lets pass is framed
module _ (file : List ℕ) {x : Refusal} (e : x ≡ file_refusal file) (h : x.number ≡ 0) where
  zero : (file_refusal file).number ≡ 0
  zero = sym (ap (λ (y : Refusal). y.number) e) ∙ h

  frame : Framed file
  frame = (opened file zero).frame

pub returns-then-refusal-ne0 : goal.returns-then-refusal-ne0
returns-then-refusal-ne0 c =
    let a = c.args in
    let e = c.check-refusal.ensures in
    answered_err _ c.if-refusal-ne0.true 0
    ∙ refused_find a.file.now a.number.now c.check-refusal.result
    (e ∙ sym (find_file a.file.now a.number.now (λ z. c.if-refusal-ne0.true (ap (λ (x : Refusal). x.number) e ∙ z)))) c.if-refusal-ne0.true

pub overflow_mul-start : goal.overflow_mul-start
overflow_mul-start c =
    omega (arith, (frame c.args.file.now c.check-refusal.ensures c.if-refusal-ne0.false).most, c.count_in-count.ensures)

pub overflow_mul-end : goal.overflow_mul-end
overflow_mul-end c =
    omega (arith, (frame c.args.file.now c.check-refusal.ensures c.if-refusal-ne0.false).most, c.count_in-count.ensures)

pub slice_bounds-first_of-end : goal.slice_bounds-first_of-end
slice_bounds-first_of-end c =
    omega (arith, (frame c.args.file.now c.check-refusal.ensures c.if-refusal-ne0.false).size, c.count_in-count.ensures)

pub returns : goal.returns
returns c =
    let a = c.args in
    let e = index_lent a.file.now c.count_in-count.result c.count_in-count.ensures in
    c.answer_of.ensures
    ∙ find_told a.file.now a.number.now (zero a.file.now c.check-refusal.ensures c.if-refusal-ne0.false) _ e c.count_in-count.result c.first_of-position.result c.refuse_position.result c.count_in-count.ensures c.first_of-position.ensures c.refuse_position.ensures
