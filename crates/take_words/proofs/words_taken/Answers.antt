-- `take_words::words_taken` meets its contract. The invariant: the words that are left, with what was said so far, make the whole. Assumes nothing.
use mathlib.Core.Path.{sym, ◌∙◌}
use native.Mathlib.Omega.{arith}
use Rattle.table_take.specs.Words.{word_taken, words_taken}
use Rattle.table_take.proofs.Turns.{word_turn, no_word_turn, words_over}
use Rattle.take_words.proofs.words_taken.Goals.{then-start-end, else-start-end}
use Rattle.take_words.proofs.words_taken.Goals as goal

pub loop-at-preserved : goal.loop-at-preserved
loop-at-preserved c =
    let l = c.loop-at in
    let a = c.args in
    let s = c.behind-start in
    let e = c.behind-end in
    elim c.if-start-end.branch [
      | then-start-end w ↦ rw (w.got-is, w.word_taken-got.ensures) (word_turn (word_taken a.due) l.got a.line.now l.at s.result e.result s.ensures.value e.ensures.value (omega arith) ∙ l.invariant)
      | else-start-end w ↦ rw w.got-is (no_word_turn (word_taken a.due) l.got a.line.now l.at s.result e.result s.ensures.value e.ensures.value (omega arith) ∙ l.invariant)
    ]

pub returns : goal.returns
unfolding words_taken
returns c =
    let l = c.loop-at in
    let a = c.args in
    sym (words_over (word_taken a.due) l.got a.line.now l.at (omega arith)) ∙ l.invariant
