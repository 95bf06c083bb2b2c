-- `rebuilding::mending::mend_objects` meets its contract. The invariant: the first i objects are those of the whole. Assumes nothing.
use mathlib.Core.Path.{◌≡◌, refl, sym, ap, ◌∙◌}
use mathlib.Core.Bool.{cond}
use Prim.Native.Nat.{ℕ, ◌<◌}
use native.Mathlib.Omega.{arith}
use lib.ListN.{get_or, length-set}
use lib.Seq.{get_or-take}
use Rattle.edition.specs.Rows.{tags}
use Rattle.card.specs.Content.{no_object}
use Rattle.card.specs.Layout.{object_tags}
use Rattle.rebuilding.specs.Rebuilding.{names_tag}
use Rattle.differences.proofs.Words.{tags_16}
use Rattle.differences.proofs.Filled.{stored_next, stored_end}
use Rattle.rebuilding.proofs.Picked.{mended_length, mended_at}
use borrow.Author.Rules.{rules}
use Rattle.rebuilding.proofs.mending.mend_objects.Goals as goal

pub loop-i-init : goal.loop-i-init
loop-i-init c = (search rules, search rules, search rules, refl)

pub loop-i-preserved : goal.loop-i-preserved
loop-i-preserved c =
    let put = c.mend_object in
    let l = c.loop-i in
    let a = c.args in
    let listed = names_tag a.entries.now in
    let i = l.invariant in
    let h : l.i < 16 = omega arith in
    let at = c.tag_of.ensures ∙ sym (get_or-take 16 tags l.i 0 h) in
    let many = mended_length listed object_tags a.first a.second (i.1 ∙ sym tags_16) (i.2 ∙ sym tags_16) in
    let is = put.ensures ∙ ap (λ (t : ℕ). cond (listed t) (get_or a.second l.i no_object) (get_or a.first l.i no_object)) at in
    (simp length-set i.0, i.1, i.2, stored_next _ _ l.i i.3 no_object _ (omega (arith, i.0)) (omega (arith, many, tags_16)) (is ∙ sym (mended_at listed object_tags a.first a.second no_object l.i (i.1 ∙ sym tags_16) (i.2 ∙ sym tags_16) (omega (arith, tags_16)))))

pub returns : goal.returns
returns c =
    let l = c.loop-i in
    let a = c.args in
    let e : l.i ≡ 16 = omega arith in
    let many = mended_length (names_tag a.entries.now) object_tags a.first a.second (l.invariant.1 ∙ sym tags_16) (l.invariant.2 ∙ sym tags_16) in
    stored_end _ _ l.i l.invariant.3 (omega (arith, l.invariant.0)) (omega (arith, many, tags_16))
