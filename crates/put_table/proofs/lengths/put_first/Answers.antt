-- `lengths::put_first` meets its contract, by its test. Assumes nothing.
use native.Mathlib.Omega.{arith}
use Rattle.ground.proofs.Puts.{put_there}
use lib.Pow.{pow_pos}
use Rattle.ground.proofs.Words.{decimal_short}
use Rattle.table_text.proofs.LengthLaws.{shifted, first_alone, first_more}
use Rattle.put_table.proofs.lengths.put_first.Goals as goal

pub nonzero_rem-set : goal.nonzero_rem-set
nonzero_rem-set c = rw (shifted c.args.n (omega arith)) (pow_pos _)

pub returns-then-set-n-eq0 : goal.returns-then-set-n-eq0
returns-then-set-n-eq0 c =
    let a = c.args in
    let one = put_there c.put_decimal.ensures.value c.put_decimal.ensures.room_after (omega (arith, decimal_short a.n)) in
    record { put = rw (first_alone a.set a.n (omega arith) c.if-set-n-eq0.true) one; upper_bound = omega (arith, one.place, decimal_short a.n) }

pub returns : goal.returns
returns c =
    let a = c.args in
    record { put = rw (first_more a.set a.n (omega arith) c.if-set-n-eq0.false) c.put_signed.ensures.put; upper_bound = c.put_signed.ensures.upper_bound }
