-- `reader_end::check_end` meets its contract: the test is that of the definition, then each link where the one before it refuses nothing. Assumes nothing.
use mathlib.Core.Path.{◌≡◌, sym, ap, ◌∙◌}
use mathlib.Core.Bool.{◌&&◌}
use Prim.Native.Nat.{◌≤◌}
use borrow.Author.Tests.{eqb-true, leb-true}
use lib.Dec.{eqb, leb}
use lib.ListN.{length}
use Rattle.ground.proofs.Lists.{and_left, and_right}
use Rattle.card.specs.declared.Refusal.{Refusal}
use Rattle.card.proofs.Chains.{or_pass, or_stop}
use Rattle.reader_steps.specs.Steps.{end_at}
use Rattle.reader_end.proofs.check_end.Goals as goal

pub check_checksum-checksum-requires : goal.check_checksum-checksum-requires
check_checksum-checksum-requires c =
    let right : let a = c.args in (length a.image.now ≡ 256) × (101 ≤ a.end) × (a.end ≤ 253) =
    let a = c.args in
    let p = eqb (length a.image.now) 256 in
    let q = leb 101 a.end in
    let r = leb a.end 253 in
    let two = and_left (p && q) r c.if-image-end.true in
    (eqb-true _ _ (and_left p q two), leb-true _ _ (and_right p q two), leb-true _ _ (and_right (p && q) r c.if-image-end.true)) in
    right

pub returns-then-checksum-ne0 : goal.returns-then-checksum-ne0
unfolding end_at
returns-then-checksum-ne0 c =
    let sum = c.check_checksum-checksum.ensures in
    rw c.if-image-end.true (sum ∙ sym (or_stop _ _ (λ z. c.if-checksum-ne0.true (ap (λ (x : Refusal). x.number) sum ∙ z))))

pub check_filler-requires : goal.check_filler-requires
check_filler-requires c =
    let right : let a = c.args in (length a.image.now ≡ 256) × (101 ≤ a.end) × (a.end ≤ 253) =
    let a = c.args in
    let p = eqb (length a.image.now) 256 in
    let q = leb 101 a.end in
    let r = leb a.end 253 in
    let two = and_left (p && q) r c.if-image-end.true in
    (eqb-true _ _ (and_left p q two), leb-true _ _ (and_right p q two), leb-true _ _ (and_right (p && q) r c.if-image-end.true)) in
    right

pub returns-then-image-end : goal.returns-then-image-end
unfolding end_at
returns-then-image-end c =
    let sum = c.check_checksum-checksum.ensures in
    rw c.if-image-end.true (c.check_filler.ensures ∙ sym (or_pass _ _ (ap (λ (x : Refusal). x.number) (sym sum) ∙ c.if-checksum-ne0.false)))

pub returns : goal.returns
unfolding end_at
returns c = rw c.if-image-end.false c.new.ensures
