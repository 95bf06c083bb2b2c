-- `fresher_months::apart` meets its contract: two small numbers are the same read as signed, and their distance fits. Assumes nothing.
use native.Mathlib.Omega.{arith}
use Rattle.fresher.proofs.Distance.{apart_fits, apart_is}
use Rattle.fresher_months.proofs.apart.Goals as goal

pub overflow_sub-result : goal.overflow_sub-result
overflow_sub-result c = apart_fits c.args.a c.args.b (omega arith) (omega arith)

pub returns : goal.returns
returns c = apart_is c.args.a c.args.b (omega arith) (omega arith)
