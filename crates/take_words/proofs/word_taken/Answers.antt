-- `take_words::word_taken` meets its contract, by its tests. Assumes nothing.
use borrow.Author.Tests.{eq-eqb, ne_eqb}
use Rattle.table_take.specs.Words.{word_taken}
use Rattle.take_words.proofs.word_taken.Goals as goal

pub returns-then-got-ne0 : goal.returns-then-got-ne0
unfolding word_taken
returns-then-got-ne0 c = rw (ne_eqb _ 0 c.if-got-ne0.true)

pub returns-then-due-eq0 : goal.returns-then-due-eq0
unfolding word_taken
returns-then-due-eq0 c = rw (eq-eqb _ 0 c.if-got-ne0.false, eq-eqb _ 0 c.if-due-eq0.true) c.head_word.ensures

pub returns : goal.returns
unfolding word_taken
returns c = rw (eq-eqb _ 0 c.if-got-ne0.false, ne_eqb _ 0 c.if-due-eq0.false) c.row_word.ensures
