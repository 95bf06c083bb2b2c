-- `take_sets::lengths_of` meets its contract. The invariant: what is left of the word, with what is listed so far, makes the list. Assumes nothing.
use mathlib.Core.Path.{refl, sym, ◌∙◌}
use native.Mathlib.Omega.{arith}
use Rattle.table_take.specs.LengthSets.{with_sign, lengths_of}
use Rattle.table_take.proofs.Splits.{through_next, through_end}
use Rattle.take_sets.proofs.lengths_of.Goals as goal

pub returns-then-is_word : goal.returns-then-is_word
unfolding lengths_of
returns-then-is_word c = rw (sym c.is_word.ensures ∙ c.if-is_word.true)

pub loop-sign-init : goal.loop-sign-init
loop-sign-init c = refl

pub loop-sign-preserved : goal.loop-sign-preserved
loop-sign-preserved c =
    let l = c.loop-sign in
    rw c.with_sign-item.ensures (sym (through_next with_sign 0 c.args.word.now l.sign-index l.item (omega arith)) ∙ l.invariant)

pub returns : goal.returns
unfolding lengths_of
returns c =
    let l = c.loop-sign in
    rw (sym c.is_word.ensures ∙ c.if-is_word.false, ← l.invariant, through_end with_sign 0 c.args.word.now l.sign-index l.item (omega arith)) c.closed.ensures
