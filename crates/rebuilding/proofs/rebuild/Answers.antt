-- `rebuilding::rebuild` meets its contract: the room, the first image and the rebuilt record are refused in this order. Assumes nothing.
use mathlib.Core.Path.{◌≡◌, sym, ap, ◌∙◌}
use native.Mathlib.Omega.{arith}
use Rattle.card.specs.declared.Refusal.{Refusal}
use Rattle.card.specs.declared.Reading.{Reading}
use Rattle.card.specs.Content.{content_of}
use Rattle.card.specs.Reading.{reading}
use Rattle.rebuilding.specs.Rebuilding.{rebuilt}
use Rattle.rebuilding.proofs.Mended.{room_left, size_told, first_told, last_told, room_filled}
use Rattle.rebuilding.proofs.rebuild.Goals as goal

pub returns-then-room-ne256 : goal.returns-then-room-ne256
returns-then-room-ne256 c =
    let a = c.args in
    let told = size_told a.edition a.first.now a.entries.now a.second a.room.now c.if-room-ne256.true in
    record { value = c.new.ensures ∙ told; room_after = room_left a.edition a.first.now a.entries.now a.second a.room.now (λ z. let n = ap (λ (x : Refusal). x.number) told in omega arith) }

pub returns-then-refusal-ne0 : goal.returns-then-refusal-ne0
returns-then-refusal-ne0 c =
    let a = c.args in
    let is = c.read-reading.ensures in
    let h : ((reading a.edition a.first.now).refusal.number ≡ 0 → ⊥) = λ z. c.if-refusal-ne0.true (ap (λ (x : Reading). x.refusal.number) is ∙ z) in
    let told = first_told a.edition a.first.now a.entries.now a.second a.room.now c.if-room-ne256.false h in
    record { value = ap (λ (x : Reading). x.refusal) is ∙ told; room_after = room_left a.edition a.first.now a.entries.now a.second a.room.now (λ z. h (ap (λ (x : Refusal). x.number) told ∙ z)) }

pub returns : goal.returns
returns c =
    let a = c.args in
    let is = c.read-reading.ensures in
    let z = sym (ap (λ (x : Reading). x.refusal.number) is) ∙ c.if-refusal-ne0.false in
    let same = c.mend.ensures.result_value ∙ ap (λ (x : Reading). rebuilt a.entries.now (content_of x.content) (content_of a.second)) is in record { value = c.write.ensures.value ∙ last_told a.edition a.first.now a.entries.now a.second a.room.now c.if-room-ne256.false z _ same c.mend.ensures.number_value; room_after = c.write.ensures.buffer_after ∙ room_filled a.edition a.first.now a.entries.now a.second a.room.now c.if-room-ne256.false z _ same c.mend.ensures.number_value }
