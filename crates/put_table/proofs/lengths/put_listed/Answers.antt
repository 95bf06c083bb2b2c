-- `lengths::put_listed` meets its contract. The invariant: what is left to put, from length n on, makes the whole. Assumes nothing.
use native.Mathlib.Omega.{arith}
use Rattle.ground.proofs.Puts.{left_start, left_next, left_end}
use Rattle.table_text.proofs.LengthLaws.{parts_next, parts_end}
use Rattle.put_table.proofs.lengths.put_listed.Goals as goal

pub loop-n-init : goal.loop-n-init
loop-n-init c = (omega arith, left_start _ _ _)

pub put_length-place-requires : goal.put_length-place-requires
put_length-place-requires c = (omega arith, omega arith)

pub loop-n-preserved : goal.loop-n-preserved
loop-n-preserved c =
    let l = c.loop-n in
    (omega arith, left_next l.invariant.1 _ _ (parts_next _ l.n (omega arith)) c.put_length-place.ensures.put)

pub returns : goal.returns
returns c =
    let l = c.loop-n in
    record { put = left_end l.invariant.1 (parts_end _ l.n (omega arith)); upper_bound = omega arith }
