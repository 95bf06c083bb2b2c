-- `lengths_put::put_length` meets its contract, form by form. Assumes nothing.
use native.Mathlib.Omega.{arith}
use Rattle.lengths.proofs.Forms.{field_one, field_two, field_three}
use borrow.Author.Rules.{rules}
use Rattle.lengths_put.proofs.put_length.Goals as goal

pub returns-then-n-le127 : goal.returns-then-n-le127
returns-then-n-le127 c =
    let n = c.args.n in
    rw (field_one n (omega arith)) c.put_byte.ensures

pub returns-then-n-le255 : goal.returns-then-n-le255
returns-then-n-le255 c =
    let n = c.args.n in
    rw (field_two n (omega arith) (omega arith)) c.put.ensures

pub returns : goal.returns
returns c =
    let n = c.args.n in
    rw (field_three n (omega arith)) c.put-2.ensures
