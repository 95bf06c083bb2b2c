-- `frame_head::is_right` meets its contract: each part is the same, so each is passed. Assumes nothing.
use mathlib.Core.Path.{sym, ◌∙◌}
use mathlib.Core.Bool.{◌&&◌}
use native.Mathlib.Omega.{arith}
use Rattle.ground.proofs.Lists.{and_left, and_right}
use Rattle.card.specs.Layout.{identifier}
use Rattle.frame.proofs.Heads.{all_right}
use Rattle.frame_head.proofs.is_right.Goals as goal

pub returns : goal.returns
unfolding identifier
returns c = λ e.
    let p = c.is_same-chip.result in
    let q = c.is_same-tags.result in
    let r = c.is_same-identifier.result in
    let t = c.is_same-body.result in
    let three = and_left ((p && q) && r) t e in
    let two = and_left (p && q) r three in
    all_right _ (omega arith)
    (sym c.is_same-chip.ensures ∙ and_left p q two)
    (sym c.is_same-tags.ensures ∙ and_right p q two)
    (sym c.is_same-identifier.ensures ∙ and_right (p && q) r three)
    (sym c.is_same-body.ensures ∙ and_right ((p && q) && r) t e)
