-- Each way to the end of `write_back`.
use Rattle.std.proofs.Common.{take, replicate, refl, sym, ◌∙◌, arith}
use Rattle.std.proofs.lemmas.List.{length-take-le}
use Rattle.ground.proofs.Puts.{put_stored}
use Rattle.std.specs.Prelude.{Ok, Err}
use Rattle.tree_back.specs.declared.BackError.TheVariants.{Room, Listing}
use Rattle.tree_back.proofs.Ends.{at_none, in_scratch, at_other, at_small, at_wrote}
use Rattle.tree_write.proofs.write_back.Goals as goal

pub slice_bounds-scratch-end : goal.slice_bounds-scratch-end
slice_bounds-scratch-end c =
    let a = c.args in
    let d = c.glue_all in
    omega (arith, d.auto.out, in_scratch a.words.now a.values.now a.room.now (Ok 0) (replicate 4100 0) d.new.out c.in-Some.n c.in-Some.ensures.answer d.ensures.bytes)

pub slice_bounds-same_tree-end : goal.slice_bounds-same_tree-end
slice_bounds-same_tree-end c =
    let a = c.args in
    let d = c.glue_all in
    sym (length-take-le c.in-Some.n d.new.out
    (omega (arith, d.auto.out, in_scratch a.words.now a.values.now a.room.now (Ok 0) (replicate 4100 0) d.new.out c.in-Some.n c.in-Some.ensures.answer d.ensures.bytes)))

pub returns-then-not-same_tree : goal.returns-then-not-same_tree
returns-then-not-same_tree c =
    let a = c.args in
    let d = c.glue_all in
    at_other a.words.now a.values.now a.room.now (Err Listing) (replicate 4100 0) d.new.out c.in-Some.n c.in-Some.ensures.answer d.ensures.bytes
    (sym c.same_tree.ensures ∙ c.if-not-same_tree.true) refl

pub returns-then-room-n : goal.returns-then-room-n
returns-then-room-n c =
    let a = c.args in
    let d = c.glue_all in
    at_small a.words.now a.values.now a.room.now (Err Room) (replicate 4100 0) d.new.out c.in-Some.n c.in-Some.ensures.answer d.ensures.bytes
    (λ i. (c.type_inv.words i).fits) (λ i. (c.type_inv.values i).fits) (sym c.same_tree.ensures ∙ c.if-not-same_tree.false) c.if-room-n.true refl

pub slice_bounds-scratch-end-2 : goal.slice_bounds-scratch-end-2
slice_bounds-scratch-end-2 c =
    let a = c.args in
    let d = c.glue_all in
    omega (arith, d.auto.out, in_scratch a.words.now a.values.now a.room.now (Ok 0) (replicate 4100 0) d.new.out c.in-Some.n c.in-Some.ensures.answer d.ensures.bytes)

pub slice_bounds-put-end : goal.slice_bounds-put-end
slice_bounds-put-end c =
    let a = c.args in
    let d = c.glue_all in
    sym (length-take-le c.in-Some.n d.new.out
    (omega (arith, d.auto.out, in_scratch a.words.now a.values.now a.room.now (Ok 0) (replicate 4100 0) d.new.out c.in-Some.n c.in-Some.ensures.answer d.ensures.bytes)))

pub overflow_cast-result : goal.overflow_cast-result
overflow_cast-result c =
    let a = c.args in
    let d = c.glue_all in
    omega (arith, d.auto.out, in_scratch a.words.now a.values.now a.room.now (Ok 0) (replicate 4100 0) d.new.out c.in-Some.n c.in-Some.ensures.answer d.ensures.bytes)

pub returns-in_default : goal.returns-in_default
returns-in_default c =
    let a = c.args in
    at_none a.words.now a.values.now a.room.now (Err Listing) (sym c.in_default.is ∙ c.glue_all.ensures.answer) refl

pub returns : goal.returns
returns c =
    let a = c.args in
    let d = c.glue_all in
    let n = c.in-Some.n in
    let long = length-take-le n d.new.out
    (omega (arith, d.auto.out, in_scratch a.words.now a.values.now a.room.now (Ok 0) (replicate 4100 0) d.new.out n c.in-Some.ensures.answer d.ensures.bytes)) in
    at_wrote a.words.now a.values.now a.room.now (Ok n) (replicate 4100 0) d.new.out n c.in-Some.ensures.answer d.ensures.bytes
    (λ i. (c.type_inv.words i).fits) (λ i. (c.type_inv.values i).fits) (sym c.same_tree.ensures ∙ c.if-not-same_tree.false) c.if-room-n.false
    c.put.new.room (put_stored a.room.now 0 (take n d.new.out) (omega (arith, long, c.if-room-n.false)) c.put.ensures.room_after) refl
