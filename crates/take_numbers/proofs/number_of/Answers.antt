-- `take_numbers::number_of` meets its contract. The invariant: what is left of the word, with the number so far, makes the number. Assumes nothing.
use mathlib.Core.Path.{refl, sym, ◌∙◌}
use native.Mathlib.Omega.{arith}
use Rattle.table_take.specs.Numbers.{with_byte, number_of}
use Rattle.table_take.proofs.Splits.{through_next, through_end}
use Rattle.take_numbers.proofs.number_of.Goals as goal

pub loop-b-init : goal.loop-b-init
loop-b-init c = refl

pub loop-b-preserved : goal.loop-b-preserved
loop-b-preserved c =
    let l = c.loop-b in
    rw c.with_byte-number.ensures (sym (through_next with_byte 0 c.args.word.now l.b-index l.number (omega arith)) ∙ l.invariant)

pub returns : goal.returns
unfolding number_of
returns c =
    let l = c.loop-b in
    sym (through_end with_byte 0 c.args.word.now l.b-index l.number (omega arith)) ∙ l.invariant
