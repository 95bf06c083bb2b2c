-- `frame_head::find_late` meets its contract: each part is passed or holds the first difference. Assumes nothing.
use Prim.Native.Nat.{◌+◌}
use mathlib.Core.Path.{◌≡◌, sym, ◌∙◌}
use native.Mathlib.Omega.{arith}
use lib.ListN.{drop}
use Rattle.ground.specs.Lists.{agree}
use Rattle.card.specs.Layout.{identifier}
use Rattle.ground.proofs.Runs.{part_stops, part_passes}
use Rattle.frame.proofs.Heads.{body, last, behind_identifier, over_last}
use Rattle.frame_head.specs.Late.{late_end}
use Rattle.frame_head.proofs.find_late.Goals as goal

pub returns-then-identifier-lt6 : goal.returns-then-identifier-lt6
unfolding identifier late_end
returns-then-identifier-lt6 c =
    let s = c.args.image.now in
    part_stops s 21 6 identifier (behind_identifier s) c.count_same-identifier.ensures (omega arith) c.if-identifier-lt6.true

pub returns-then-body-lt2 : goal.returns-then-body-lt2
unfolding identifier late_end
returns-then-body-lt2 c =
    let at_body : late_end c.args.image.now ≡ 27 + agree (behind_identifier c.args.image.now) (drop 27 c.args.image.now) =
    part_passes c.args.image.now 21 6 identifier (behind_identifier c.args.image.now) c.count_same-identifier.ensures (omega arith) c.if-identifier-lt6.false in
    let s = c.args.image.now in
    part_stops s 27 2 body (last s) c.count_same-body.ensures (omega arith) c.if-body-lt2.true ∙ sym (at_body)

pub returns : goal.returns
unfolding identifier late_end
returns c =
    let at_body : late_end c.args.image.now ≡ 27 + agree (behind_identifier c.args.image.now) (drop 27 c.args.image.now) =
    part_passes c.args.image.now 21 6 identifier (behind_identifier c.args.image.now) c.count_same-identifier.ensures (omega arith) c.if-identifier-lt6.false in
    let s = c.args.image.now in
    sym
    (at_body
    ∙ part_passes s 27 2 body (last s) c.count_same-body.ensures (omega arith) c.if-body-lt2.false
    ∙ over_last s (omega arith))
