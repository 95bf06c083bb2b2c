-- `day_add::add` meets its contract: what is refused before the card is looked at, then 41. Assumes nothing.
use mathlib.Core.Path.{◌≡◌, refl, sym, ap, ap₂, ◌∙◌}
use mathlib.Core.Bool.{true, false}
use mathlib.Core.List.{List}
use Prim.Native.Nat.{ℕ, ◌+◌, ◌*◌, ◌≤◌}
use native.Mathlib.Omega.{arith}
use borrow.Author.Tests.{not-true, not-false}
use lib.ListN.{length, take, drop}
use lib.Seq.{take-take}
use Rattle.ground.specs.Pieces.{pieces}
use Rattle.card.specs.declared.Refusal.{Refusal}
use Rattle.card.specs.Refusals.{refuse, none, or_else}
use Rattle.day_index.specs.Order.{flat, insert}
use Rattle.day_cards.specs.declared.Card.{Card}
use Rattle.day.specs.Cards.{is_card}
use Rattle.day.specs.Files.{count_in, images_in, index_bytes, file_refusal}
use Rattle.day.specs.Calls.{more_refusal}
use Rattle.day.proofs.Entries.{put_next}
use Rattle.day.proofs.Opens.{opened}
use Rattle.day.proofs.Sizes.{length_images, card_size, answered_ok, answered_err}
use Rattle.day.proofs.Adds.{front_refusal, Roomy, front_refused, front_roomy, add_card, add_none, refused_add, written_add}
use Rattle.day_add.proofs.add.Goals as goal

-- what is refused before the card is looked at, and what holds where nothing is
module _ (file : List ℕ) (size : ℕ) {n : ℕ} {x y z : Refusal} (o : z ≡ or_else x y) (f : x ≡ file_refusal file) (m : y ≡ more_refusal n size) (e : n ≡ count_in file) where
  told : z ≡ front_refusal file size
  told = o ∙ ap₂ or_else f (m ∙ ap (λ (k : ℕ). more_refusal k size) e)

  roomy : z.number ≡ 0 → Roomy file size
  roomy h = front_roomy file size (sym (ap (λ (w : Refusal). w.number) told) ∙ h)

  few : z.number ≡ 0 → n + 1 ≤ 200
  few h = omega (arith, (roomy h).few, e)

pub returns-then-refusal-ne0 : goal.returns-then-refusal-ne0
returns-then-refusal-ne0 c =
    let front : c.or_else-refusal.result ≡ front_refusal c.args.file.now (length c.args.room.now) = told c.args.file.now (length c.args.room.now) c.or_else-refusal.ensures c.check.ensures c.refuse_more-more.ensures c.count_in-count.ensures in
    let a = c.args in
    let e = front ∙ sym (front_refused a.file.now a.card.now (length a.room.now) (λ z. c.if-refusal-ne0.true (ap (λ (x : Refusal). x.number) (front) ∙ z))) in
    let w = refused_add a.file.now a.card.now a.room.now c.or_else-refusal.result e c.if-refusal-ne0.true in
    record { value = answered_err _ c.if-refusal-ne0.true 0 ∙ w.0; room_after = w.1 }

pub overflow_cast-count : goal.overflow_cast-count
overflow_cast-count c =
    omega (arith, few c.args.file.now (length c.args.room.now) c.or_else-refusal.ensures c.check.ensures c.refuse_more-more.ensures c.count_in-count.ensures c.if-refusal-ne0.false)

pub returns-then-not-new : goal.returns-then-not-new
returns-then-not-new c =
    let done : Roomy c.args.file.now (length c.args.room.now) = roomy c.args.file.now (length c.args.room.now) c.or_else-refusal.ensures c.check.ensures c.refuse_more-more.ensures c.count_in-count.ensures c.if-refusal-ne0.false in
    let a = c.args in
    let d = done in
    let f = ap (λ (x : Refusal). x.number) c.new.ensures in
    let no : is_card a.card.now ≡ false = sym (ap (λ (x : Card). x.accepted) c.card_at-new.ensures) ∙ not-true _ c.if-not-new.true in
    let g = c.new.ensures ∙ ap (λ (m : ℕ). refuse 41 m 0) c.count_in-count.ensures ∙ sym (add_card a.file.now a.card.now (length a.room.now) d.zero_file d.few d.room no) in
    let w = refused_add a.file.now a.card.now a.room.now c.new.result g (λ z. absurd (omega arith)) in
    record { value = answered_err _ (λ z. absurd (omega arith)) 0 ∙ w.0; room_after = w.1 }

pub put_added-requires : goal.put_added-requires
put_added-requires c =
    let done : Roomy c.args.file.now (length c.args.room.now) = roomy c.args.file.now (length c.args.room.now) c.or_else-refusal.ensures c.check.ensures c.refuse_more-more.ensures c.count_in-count.ensures c.if-refusal-ne0.false in
    let is-card : is_card c.args.card.now ≡ true =
    sym (ap (λ (x : Card). x.accepted) c.card_at-new.ensures) ∙ not-false _ c.if-not-new.false in
    let d = done in
    let n = c.count_in-count.ensures in
    (omega (arith, d.few), omega (arith, (opened _ d.zero_file).frame.size), card_size _ (is-card), omega (arith, d.room))

pub overflow_add-result : goal.overflow_add-result
overflow_add-result c =
    omega (arith, few c.args.file.now (length c.args.room.now) c.or_else-refusal.ensures c.check.ensures c.refuse_more-more.ensures c.count_in-count.ensures c.if-refusal-ne0.false)

pub overflow_mul-result : goal.overflow_mul-result
overflow_mul-result c =
    omega (arith, few c.args.file.now (length c.args.room.now) c.or_else-refusal.ensures c.check.ensures c.refuse_more-more.ensures c.count_in-count.ensures c.if-refusal-ne0.false)

pub overflow_add-result-2 : goal.overflow_add-result-2
overflow_add-result-2 c =
    omega (arith, few c.args.file.now (length c.args.room.now) c.or_else-refusal.ensures c.check.ensures c.refuse_more-more.ensures c.count_in-count.ensures c.if-refusal-ne0.false)

pub returns : goal.returns
returns c =
    let done : Roomy c.args.file.now (length c.args.room.now) = roomy c.args.file.now (length c.args.room.now) c.or_else-refusal.ensures c.check.ensures c.refuse_more-more.ensures c.count_in-count.ensures c.if-refusal-ne0.false in
    let is-card : is_card c.args.card.now ≡ true =
    sym (ap (λ (x : Card). x.accepted) c.card_at-new.ensures) ∙ not-false _ c.if-not-new.false in
    let a = c.args in
    let d = done in
    let s = a.file.now in
    let m = c.count_in-count.result in
    let h = c.count_in-count.ensures in
    let x = sym (add_none s a.card.now (length a.room.now) d.zero_file d.few d.room (is-card)) in
    let part = take (m * 14) (drop (m * 256) s) in
    let index : take (m * 14) part ≡ index_bytes (images_in s) =
    take-take (m * 14) (m * 14) (drop (m * 256) s) (omega arith) ∙ ap (λ (i : ℕ). take (i * 14) (drop (i * 256) s)) h ∙ (opened s d.zero_file).index in
    let g = put_next (images_in s) a.card.now part m c.card_at-new.result.entry (length_images s ∙ sym h) index (ap (λ (y : Card). y.entry) c.card_at-new.ensures) in
    let w = written_add s a.card.now a.room.now none m (flat (insert c.card_at-new.result.entry (pieces 14 m part))) x refl h g in
    record { value = answered_ok none refl _ ∙ w.0; room_after = c.put_added.ensures ∙ w.1 }
