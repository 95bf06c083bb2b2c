-- `day_check::check` meets its contract: 40, 41 and 42 in turn. What a framed file's trailer tells bounds every part that is lent. Assumes nothing.
use mathlib.Core.Path.{◌≡◌, sym, ap, ap₂, ◌∙◌}
use mathlib.Core.Bool.{true}
use mathlib.Core.List.{List}
use Prim.Native.Nat.{ℕ, ◌+◌, ◌*◌, ◌/◌, ◌≤◌}
use native.Mathlib.Omega.{arith}
use borrow.Author.Rules.{rules}
use lib.ListN.{length, take}
use lib.Seq.{length-take-le}
use Rattle.card.specs.declared.Refusal.{Refusal}
use Rattle.ground.specs.Lists.{same_list}
use Rattle.day.specs.Files.{fits, count_in, images_in, index_bytes, cards_refusal}
use Rattle.day.specs.Calls.{laid_images, laid_refusal}
use Rattle.day.proofs.Frames.{framed}
use Rattle.day.proofs.Opens.{file_unframed, file_card, file_index, file_opens, index_lent}
use Rattle.day.proofs.Builds.{laid_part, laid_file_refusal, laid_length}
use Rattle.day_check.proofs.check.Goals as goal

-- of a framed file, with the count n of its trailer: its size, what its images tell, and the index that was gathered of them
module _ (s : List ℕ) (n : ℕ) (f : fits s ≡ true) (e : n ≡ count_in s) where
  few : n ≤ 200
  few = omega (arith, (framed s f).most, e)

  size : length s ≡ n * 270 + 8
  size = omega (arith, (framed s f).size, e)

  told : (x : Refusal) → x ≡ laid_refusal (take (n * 256) s) → x ≡ cards_refusal 0 (images_in s)
  told x g = g ∙ laid_file_refusal s n e (omega (arith, size)) few

  index : (room : List ℕ) → take (length (take (n * 256) s) / 256 * 14) room ≡ index_bytes (laid_images (take (n * 256) s))
      → take (n * 14) room ≡ index_bytes (images_in s)
  index room g =
      ap (λ (m : ℕ). take m room) (sym (laid_length s n e (omega (arith, size)))) ∙ g ∙ ap index_bytes (laid_part s n e (omega (arith, size)))

pub returns-then-not-is_framed : goal.returns-then-not-is_framed
returns-then-not-is_framed c =
    c.new.ensures ∙ sym (file_unframed c.args.file.now (sym c.is_framed.ensures ∙ c.if-not-is_framed.true))

pub overflow_mul-start : goal.overflow_mul-start
overflow_mul-start c = omega (arith, few c.args.file.now _ (sym c.is_framed.ensures ∙ c.if-not-is_framed.false) c.count_in-count.ensures)

pub slice_bounds-gather-end : goal.slice_bounds-gather-end
slice_bounds-gather-end c =
    let l = size c.args.file.now _ (sym c.is_framed.ensures ∙ c.if-not-is_framed.false) c.count_in-count.ensures in
    sym (length-take-le (c.count_in-count.result * 256) c.args.file.now (omega (arith, l)))

pub returns-then-refusal-ne0 : goal.returns-then-refusal-ne0
returns-then-refusal-ne0 c =
    let f : fits c.args.file.now ≡ true = sym c.is_framed.ensures ∙ c.if-not-is_framed.false in
    let t = told c.args.file.now _ f c.count_in-count.ensures c.gather-refusal.result c.gather-refusal.ensures.value in
    t ∙ sym (file_card c.args.file.now f (λ z. c.if-refusal-ne0.true (ap (λ (x : Refusal). x.number) t ∙ z)))

pub overflow_mul-end : goal.overflow_mul-end
overflow_mul-end c = omega (arith, few c.args.file.now _ (sym c.is_framed.ensures ∙ c.if-not-is_framed.false) c.count_in-count.ensures)

pub overflow_mul-size : goal.overflow_mul-size
overflow_mul-size c = omega (arith, few c.args.file.now _ (sym c.is_framed.ensures ∙ c.if-not-is_framed.false) c.count_in-count.ensures)

pub slice_bounds-is_same-start : goal.slice_bounds-is_same-start
slice_bounds-is_same-start c = omega (arith, size c.args.file.now _ (sym c.is_framed.ensures ∙ c.if-not-is_framed.false) c.count_in-count.ensures)

pub slice_bounds-is_same-end : goal.slice_bounds-is_same-end
slice_bounds-is_same-end c = omega (arith, size c.args.file.now _ (sym c.is_framed.ensures ∙ c.if-not-is_framed.false) c.count_in-count.ensures)

pub slice_bounds-index-end : goal.slice_bounds-index-end
slice_bounds-index-end c =
    omega (arith, few c.args.file.now _ (sym c.is_framed.ensures ∙ c.if-not-is_framed.false) c.count_in-count.ensures, c.gather-refusal.auto.room)

pub slice_bounds-is_same-end-2 : goal.slice_bounds-is_same-end-2
slice_bounds-is_same-end-2 c =
    let n = few c.args.file.now _ (sym c.is_framed.ensures ∙ c.if-not-is_framed.false) c.count_in-count.ensures in
    sym (length-take-le (c.count_in-count.result * 14) c.gather-refusal.new.room (omega (arith, n, c.gather-refusal.auto.room)))

pub returns-then-not-is_same : goal.returns-then-not-is_same
returns-then-not-is_same c =
    let s = c.args.file.now in
    let e = c.count_in-count.ensures in
    let f : fits s ≡ true = sym c.is_framed.ensures ∙ c.if-not-is_framed.false in
    let t = told s _ f e c.gather-refusal.result c.gather-refusal.ensures.value in
    let i = index s _ f e c.gather-refusal.new.room (c.gather-refusal.ensures.room_after_2 c.if-refusal-ne0.false (search rules)) in
    let z : (cards_refusal 0 (images_in s)).number ≡ 0 = sym (ap (λ (x : Refusal). x.number) t) ∙ c.if-refusal-ne0.false in
    let w = ap₂ same_list (sym (index_lent s c.count_in-count.result e)) (sym i) ∙ sym c.is_same.ensures ∙ c.if-not-is_same.true in
    c.new-then-not-is_same.ensures ∙ sym (file_index s f z w)

pub returns : goal.returns
returns c =
    let s = c.args.file.now in
    let e = c.count_in-count.ensures in
    let f : fits s ≡ true = sym c.is_framed.ensures ∙ c.if-not-is_framed.false in
    let t = told s _ f e c.gather-refusal.result c.gather-refusal.ensures.value in
    let i = index s _ f e c.gather-refusal.new.room (c.gather-refusal.ensures.room_after_2 c.if-refusal-ne0.false (search rules)) in
    let z : (cards_refusal 0 (images_in s)).number ≡ 0 = sym (ap (λ (x : Refusal). x.number) t) ∙ c.if-refusal-ne0.false in
    let w = ap₂ same_list (sym (index_lent s c.count_in-count.result e)) (sym i) ∙ sym c.is_same.ensures ∙ c.if-not-is_same.false in
    c.none.ensures ∙ sym (file_opens s f z w)
