-- `front_names::put_lines` meets its contract: one line or two, by the test. Assumes nothing.
use Prim.Native.Nat.{◌<◌}
use native.Mathlib.Omega.{arith}
use lib.ListN.{length}
use Rattle.card.specs.Content.{content_of}
use Rattle.front.specs.Lines.{spaced, forenames}
use Rattle.front.proofs.Spaced.{item}
use Rattle.front.proofs.Sizes.{end_held, end_past}
use Rattle.front.proofs.NameLines.{names_long, family_held, family_end, one_there, two_there}
use Rattle.front_names.proofs.put_lines.Goals as goal

pub put_forenames-end-requires : goal.put_forenames-end-requires
put_forenames-end-requires c = (c.requires.0, omega (arith, c.requires.1))

pub overflow_sub-end : goal.overflow_sub-end
overflow_sub-end c = omega (arith, c.put_forenames-end.ensures.place)

pub overflow_sub-end-then-line_end-le28 : goal.overflow_sub-end-then-line_end-le28
overflow_sub-end-then-line_end-le28 c = omega (arith, c.put_forenames-end.ensures.place)

pub put_part-behind_family-requires : goal.put_part-behind_family-requires
put_part-behind_family-requires c =
    family_held c.args.content c.args.room.now c.args.at c.requires.1 c.put_forenames-end.ensures (end_held _ _ _ _ (names_long c.args.content c.args.room.now c.args.at c.requires.1 c.put_forenames-end.ensures) c.line_end.ensures (omega (arith, c.if-line_end-le28.true)))

pub overflow_sub-at : goal.overflow_sub-at
overflow_sub-at c =
    family_end c.args.content c.args.room.now c.args.at c.requires.1 c.put_forenames-end.ensures (end_held _ _ _ _ (names_long c.args.content c.args.room.now c.args.at c.requires.1 c.put_forenames-end.ensures) c.line_end.ensures (omega (arith, c.if-line_end-le28.true))) c.put_part-behind_family.ensures

pub returns-then-line_end-le28 : goal.returns-then-line_end-le28
returns-then-line_end-le28 c =
    one_there c.args.content c.args.room.now c.args.at c.requires.1 c.put_forenames-end.ensures (end_held _ _ _ _ (names_long c.args.content c.args.room.now c.args.at c.requires.1 c.put_forenames-end.ensures) c.line_end.ensures (omega (arith, c.if-line_end-le28.true))) c.put_part-behind_family.ensures c.fill.ensures.value c.fill.ensures.room_after

pub overflow_sub-at-2 : goal.overflow_sub-at-2
overflow_sub-at-2 c =
    omega (arith, c.put_forenames-end.ensures.place, c.requires.0)

pub returns : goal.returns
returns c =
    let apart : 28 < length (spaced (forenames (content_of c.args.content)) (item c.args.content 9)) =
    end_past (forenames (content_of c.args.content)) (item c.args.content 9) _ c.line_end.result (names_long c.args.content c.args.room.now c.args.at c.requires.1 c.put_forenames-end.ensures) c.line_end.ensures (omega (arith, c.if-line_end-le28.false)) in
    two_there c.args.content c.args.room.now c.args.at c.requires.1 c.put_forenames-end.ensures c.requires.0 (apart) c.fill-second.ensures.value c.fill-second.ensures.room_after c.put_field.ensures.value c.put_field.ensures.room_after
