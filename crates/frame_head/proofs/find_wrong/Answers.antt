-- `frame_head::find_wrong` meets its contract: each part is passed or holds the first difference. Assumes nothing.
use Prim.Native.Nat.{◌+◌}
use mathlib.Core.Path.{◌≡◌, sym, ◌∙◌}
use mathlib.Core.List.{◌++◌}
use native.Mathlib.Omega.{arith}
use lib.ListN.{drop}
use Rattle.ground.specs.Lists.{agree}
use Rattle.card.specs.Frame.{head_end}
use Rattle.ground.proofs.Runs.{part_stops, part_passes}
use Rattle.frame.proofs.Heads.{chip, application, behind_chip, behind_application, from_chip, over_free}
use Rattle.frame_head.specs.Late.{late_end}
use Rattle.frame_head.proofs.find_wrong.Goals as goal

pub returns-then-chip-lt5 : goal.returns-then-chip-lt5
returns-then-chip-lt5 c =
    let s = c.args.image.now in
    part_stops s 1 5 chip (behind_chip s) c.count_same-chip.ensures (omega arith) c.if-chip-lt5.true ∙ sym (from_chip s (omega arith))

pub returns-then-tags-lt4 : goal.returns-then-tags-lt4
returns-then-tags-lt4 c =
    let at-application : head_end c.args.image.now ≡ 17 + agree (application ++ behind_application c.args.image.now) (drop 17 c.args.image.now) =
    let s = c.args.image.now in
    from_chip s (omega arith)
    ∙ part_passes s 1 5 chip (behind_chip s) c.count_same-chip.ensures (omega arith) c.if-chip-lt5.false
    ∙ over_free s (omega arith) in
    let s = c.args.image.now in
    part_stops s 17 4 application (behind_application s) c.count_same-tags.ensures (omega arith) c.if-tags-lt4.true ∙ sym (at-application)

pub returns : goal.returns
unfolding late_end
returns c =
    let at-application : head_end c.args.image.now ≡ 17 + agree (application ++ behind_application c.args.image.now) (drop 17 c.args.image.now) =
    let s = c.args.image.now in
    from_chip s (omega arith)
    ∙ part_passes s 1 5 chip (behind_chip s) c.count_same-chip.ensures (omega arith) c.if-chip-lt5.false
    ∙ over_free s (omega arith) in
    let at-identifier : head_end c.args.image.now ≡ 21 + agree (behind_application c.args.image.now) (drop 21 c.args.image.now) =
    let s = c.args.image.now in
    at-application
    ∙ part_passes s 17 4 application (behind_application s) c.count_same-tags.ensures (omega arith) c.if-tags-lt4.false in
    c.find_late.ensures ∙ sym (at-identifier)
