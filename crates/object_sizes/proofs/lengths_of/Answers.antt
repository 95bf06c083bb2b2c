-- `lengths_of` meets its contract. The invariant: below i stand the lengths of the values. Assumes nothing.
use mathlib.Core.Path.{◌≡◌, refl, sym, ◌∙◌}
use mathlib.Core.List.{[], map}
use Prim.Native.Nat.{◌+◌, ◌*◌}
use native.Mathlib.Omega.{arith}
use borrow.Author.Tests.{ne_eqb}
use lib.ListN.{length, get_or, length-map, length-set, get_or-map}
use lib.Seq.{ext_get_or}
use Rattle.card.specs.Content.{value_of, content_of, object_of, record_of, empty_record}
use Rattle.wire_records.specs.Records.{lent_record}
use Rattle.wire_records.proofs.Parts.{lent_count}
use Rattle.ground.proofs.Stores.{filled_more}
use Rattle.object_sizes.proofs.Lent.{lent_length}
use Rattle.object_sizes.proofs.lengths_of.Goals as goal

pub returns-then-bytes-ne479 : goal.returns-then-bytes-ne479
unfolding lent_record empty_record record_of object_of content_of value_of
returns-then-bytes-ne479 c = rw (ne_eqb _ 479 c.if-bytes-ne479.true)

pub loop-i-init : goal.loop-i-init
loop-i-init c = (refl, λ k h. absurd (omega arith))

pub loop-i-preserved : goal.loop-i-preserved
loop-i-preserved c =
    let l = c.loop-i in
    let bs = c.args.bytes.now in
    let is = lent_length bs c.if-bytes-ne479.false l.i (omega arith) (omega (arith, c.type_inv.bytes (14 + l.i * 29))) in
    (length-set l.lengths l.i _ ∙ l.invariant.0, filled_more l.lengths (λ k. length (get_or (content_of (lent_record bs)).values k [])) l.i _ (omega (arith, l.invariant.0)) is l.invariant.1)

pub returns : goal.returns
unfolding content_of
returns c =
    let l = c.loop-i in
    let bs = c.args.bytes.now in
    let all : l.i ≡ 16 = omega arith in
    let vs = map value_of (lent_record bs).objects in
    let many : length vs ≡ 16 = length-map (lent_record bs).objects value_of ∙ lent_count bs c.if-bytes-ne479.false in
    ext_get_or 0 l.lengths (map length vs) (l.invariant.0 ∙ sym (length-map vs length ∙ many))
    (λ k h. l.invariant.1 k (omega (arith, l.invariant.0)) ∙ sym (get_or-map length vs k []))
