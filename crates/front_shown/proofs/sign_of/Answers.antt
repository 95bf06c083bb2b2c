-- `front_shown::sign_of` meets its contract, test by test. Assumes nothing.
use Rattle.front.proofs.Signs.{sign_by, stays_signed}
use Rattle.front_shown.proofs.sign_of.Goals as goal

pub returns-then-to_one : goal.returns-then-to_one
returns-then-to_one c = rw (sign_by c.args.b, c.if-to_one.true)

pub returns-then-to_nine : goal.returns-then-to_nine
returns-then-to_nine c = rw (sign_by c.args.b, c.if-to_one.false, c.if-to_nine.true)

pub returns-then-stays : goal.returns-then-stays
returns-then-stays c = let b = c.args.b in rw (sign_by b, c.if-to_one.false, c.if-to_nine.false, c.if-stays.true) (stays_signed b c.if-stays.true)

pub returns-else-stays : goal.returns-else-stays
returns-else-stays c = rw (sign_by c.args.b, c.if-to_one.false, c.if-to_nine.false, c.if-stays.false)
