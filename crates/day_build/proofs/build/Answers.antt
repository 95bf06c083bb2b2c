-- `build` meets its contract: what is refused leaves the room; else there are at most 200 images, the room has 270 bytes for each and 8, and their index was gathered while they were checked. Assumes nothing.
use mathlib.Core.Path.{◌≡◌, sym, ap, ◌∙◌}
use mathlib.Core.List.{◌++◌}
use Prim.Native.Nat.{◌*◌, ◌/◌}
use native.Mathlib.Omega.{arith}
use lib.ListN.{length, take}
use lib.Seq.{length-take-le}
use Rattle.card.specs.declared.Refusal.{Refusal}
use Rattle.ground.proofs.Stores.{sets_then}
use Rattle.ground.proofs.Puts.{put_stored}
use Rattle.day.specs.Files.{trailer}
use Rattle.day.proofs.Frames.{closed_right}
use Rattle.day.proofs.Sizes.{answered_ok, answered_err}
use Rattle.day.proofs.Builds.{Built, built, refused_build, written_build}
use Rattle.day_build.proofs.build.Goals as goal

pub returns-then-refusal-ne0 : goal.returns-then-refusal-ne0
returns-then-refusal-ne0 c =
    let a = c.args in
    let w = refused_build a.images.now a.room.now c.check_build-refusal.result c.check_build-refusal.ensures.value c.if-refusal-ne0.true in
    record { value = answered_err _ c.if-refusal-ne0.true 0 ∙ w.0; room_after = w.1 }

pub slice_bounds-index-end : goal.slice_bounds-index-end
slice_bounds-index-end c =
    let done : Built c.args.images.now (length c.args.room.now) =
    built _ _ (sym (ap (λ (x : Refusal). x.number) c.check_build-refusal.ensures.value) ∙ c.if-refusal-ne0.false) in
    omega (arith, (done).few, c.check_build-refusal.auto.index)

pub slice_bounds-close-end : goal.slice_bounds-close-end
slice_bounds-close-end c =
    let done : Built c.args.images.now (length c.args.room.now) =
    built _ _ (sym (ap (λ (x : Refusal). x.number) c.check_build-refusal.ensures.value) ∙ c.if-refusal-ne0.false) in
    let index-size : length (take (length c.args.images.now / 256 * 14) c.check_build-refusal.new.index) ≡ length c.args.images.now / 256 * 14 =
    length-take-le _ _ (omega (arith, (done).few, c.check_build-refusal.auto.index)) in
    sym (index-size)

pub returns : goal.returns
returns c =
    let done : Built c.args.images.now (length c.args.room.now) =
    built _ _ (sym (ap (λ (x : Refusal). x.number) c.check_build-refusal.ensures.value) ∙ c.if-refusal-ne0.false) in
    let index-size : length (take (length c.args.images.now / 256 * 14) c.check_build-refusal.new.index) ≡ length c.args.images.now / 256 * 14 =
    length-take-le _ _ (omega (arith, (done).few, c.check_build-refusal.auto.index)) in
    let a = c.args in
    let s = a.images.now in
    let i = take (length s / 256 * 14) c.check_build-refusal.new.index in
    let w = written_build s a.room.now c.check_build-refusal.result i c.check_build-refusal.ensures.value c.if-refusal-ne0.false (c.check_build-refusal.ensures.index_after c.if-refusal-ne0.false) in
    let d = done in
    let put = put_stored a.room.now 0 s (omega (arith, d.whole, d.room)) c.put.ensures.room_after in
    let shut = closed_right (length s / 256) i c.put.new.room d.few (index-size) (omega (arith, d.room, c.put.auto.room)) in
    record { value = answered_ok _ c.if-refusal-ne0.false _ ∙ w.0; room_after = c.close.ensures ∙ shut ∙ sets_then a.room.now s 0 (i ++ trailer (length s / 256) i) put (omega (arith, d.whole)) ∙ w.1 }
