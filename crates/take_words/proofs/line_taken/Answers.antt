-- `take_words::line_taken` meets its contract: a word that is missing is told where no other is wrong. Assumes nothing.
use borrow.Author.Tests.{eq-eqb, ne_eqb}
use Rattle.table_take.specs.Words.{line_taken}
use Rattle.take_words.proofs.line_taken.Goals as goal

pub returns-then-got-ne0 : goal.returns-then-got-ne0
unfolding line_taken
returns-then-got-ne0 c = rw (← c.words_taken-got.ensures, ne_eqb _ 0 c.if-got-ne0.true)

pub returns : goal.returns
unfolding line_taken
returns c = rw (← c.words_taken-got.ensures, eq-eqb _ 0 c.if-got-ne0.false, ← c.missing.ensures) c.marked.ensures
