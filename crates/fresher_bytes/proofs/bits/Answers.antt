-- `bits` meets its contract: 2^32 more than a signed number of 32 bits is not negative, and its rest by 2^32 is the number in two's complement. Assumes nothing.
use Rattle.fresher.proofs.Signs.{widened, added, sum, fitting, rest}
use Rattle.fresher_bytes.proofs.bits.Goals as goal

pub overflow_cast-wide : goal.overflow_cast-wide
overflow_cast-wide c = widened c.args.months c.ranges.months

pub overflow_add-wide : goal.overflow_add-wide
overflow_add-wide c = added c.args.months c.ranges.months

pub overflow_cast-result : goal.overflow_cast-result
overflow_cast-result c = rw (sum c.args.months c.ranges.months) (tt, fitting c.args.months c.ranges.months)

pub returns : goal.returns
returns c = rw (sum c.args.months c.ranges.months) (rest c.args.months c.ranges.months)
