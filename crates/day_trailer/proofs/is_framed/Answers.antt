-- `is_framed` meets its contract: each of the three sizes that are wrong is a way not to be framed; where they are right the last eight bytes are compared with the trailer that is due. Assumes nothing.
use mathlib.Core.Path.{sym, ◌∙◌}
use Rattle.day.proofs.Frames.{too_short, too_many, other_size, by_trailer_lent}
use native.Mathlib.Omega.{arith}
use Rattle.day_trailer.proofs.is_framed.Goals as goal

pub returns-then-file-lt8 : goal.returns-then-file-lt8
returns-then-file-lt8 c = sym (too_short c.args.file.now c.if-file-lt8.true)

pub returns-then-count-gt200 : goal.returns-then-count-gt200
returns-then-count-gt200 c =
    let s = c.args.file.now in
    sym (too_many s (omega arith) (omega (arith, c.count_in-count.ensures)))

pub returns-then-file-count : goal.returns-then-file-count
returns-then-file-count c =
    let s = c.args.file.now in
    let e = c.count_in-count.ensures in
    sym (other_size s (omega arith) (omega arith) (λ z. c.if-file-count.true (omega arith)))

pub returns : goal.returns
returns c =
    let s = c.args.file.now in
    c.is_same.ensures ∙ by_trailer_lent s c.count_in-count.result c.trailer_of-trailer.result c.count_in-count.ensures c.trailer_of-trailer.ensures (omega arith) (omega arith) (omega arith)
