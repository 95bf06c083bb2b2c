-- `digit_at` meets its contract: a byte that is there is its digit, and one that is not there is 0, as a list answers past its end. Assumes nothing.
use native.Mathlib.Omega.{arith}
use lib.ListN.{get_or-eq_default}
use Rattle.fresher_months.proofs.digit_at.Goals as goal

pub returns-then-i-value : goal.returns-then-i-value
returns-then-i-value c = record { value = c.digit.ensures; upper_bound = omega (arith, c.digit.ensures, c.type_inv.value c.args.i) }

pub returns-else-i-value : goal.returns-else-i-value
returns-else-i-value c =
    let a = c.args in
    record { value = rw (get_or-eq_default a.value.now 0 {n = a.i} c.if-i-value.false); upper_bound = omega arith }
