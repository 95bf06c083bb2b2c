-- `front_names::put_forenames` meets its contract, part by part. Assumes nothing.
use native.Mathlib.Omega.{arith}
use Rattle.front.proofs.NameLines.{fore_one, fore_two, fore_three, fore_all}
use Rattle.front_names.proofs.put_forenames.Goals as goal

pub put_part-behind_title-requires : goal.put_part-behind_title-requires
put_part-behind_title-requires c =
    fore_one c.args.content c.args.room.now c.args.at c.requires.0 c.requires.1

pub overflow_sub-behind_title : goal.overflow_sub-behind_title
overflow_sub-behind_title c = omega (arith, c.put_part-behind_title.ensures.place)

pub put_part-behind_given-requires : goal.put_part-behind_given-requires
put_part-behind_given-requires c =
    fore_two c.args.content c.args.room.now c.args.at c.requires.0 c.requires.1 c.put_part-behind_title.ensures

pub overflow_sub-behind_given : goal.overflow_sub-behind_given
overflow_sub-behind_given c =
    omega (arith, c.put_part-behind_given.ensures.place, c.put_part-behind_title.ensures.place)

pub put_part-requires : goal.put_part-requires
put_part-requires c =
    fore_three c.args.content c.args.room.now c.args.at c.requires.0 c.requires.1 c.put_part-behind_title.ensures c.put_part-behind_given.ensures

pub returns : goal.returns
returns c =
    fore_all c.args.content c.args.room.now c.args.at c.requires.0 c.requires.1 c.put_part-behind_title.ensures c.put_part-behind_given.ensures c.put_part.ensures
