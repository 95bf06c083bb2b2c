-- `take_words::rule_found` meets its contract. The invariant: the word is none of those passed. Assumes nothing.
use mathlib.Core.Path.{◌≡◌, refl, sym, ◌∙◌}
use native.Mathlib.Omega.{arith}
use Rattle.table_take.proofs.Ranges.{found_stop, found_next, found_end}
use Rattle.take_words.proofs.rule_found.Goals as goal

pub loop-n-init : goal.loop-n-init
loop-n-init c = refl

pub returns-then-is_word : goal.returns-then-is_word
returns-then-is_word c =
    record { value = sym (found_stop c.args.word.now c.loop-n.n (omega arith) (sym c.is_word.ensures ∙ c.if-is_word.true)) ∙ c.loop-n.invariant; lower_bound = omega arith }

pub loop-n-preserved : goal.loop-n-preserved
loop-n-preserved c =
    sym (found_next c.args.word.now c.loop-n.n (omega arith) (sym c.is_word.ensures ∙ c.if-is_word.false)) ∙ c.loop-n.invariant

pub returns : goal.returns
returns c =
    let e : 27 ≡ c.loop-n.n = omega arith in
    record { value = e ∙ sym (found_end c.args.word.now c.loop-n.n (omega arith)) ∙ c.loop-n.invariant; lower_bound = omega arith }
