-- `take_words::head_word` meets its contract, by how many words there were. Assumes nothing.
use borrow.Author.Tests.{eq-eqb, ne_eqb}
use Rattle.table_take.specs.Words.{head_word}
use Rattle.take_words.proofs.head_word.Goals as goal

pub returns-then-got-eq0 : goal.returns-then-got-eq0
unfolding head_word
returns-then-got-eq0 c = rw (eq-eqb _ 0 c.if-got-eq0.true, ← c.is_word.ensures, ← c.fault.ensures) c.marked.ensures

pub returns-then-got-ne1 : goal.returns-then-got-ne1
unfolding head_word
returns-then-got-ne1 c = rw (ne_eqb _ 0 c.if-got-eq0.false, ne_eqb _ 1 c.if-got-ne1.true) c.marked-then-got-ne1.ensures

pub returns : goal.returns
unfolding head_word
returns c = rw (ne_eqb _ 0 c.if-got-eq0.false, eq-eqb _ 1 c.if-got-ne1.false, c.fault-2.ensures, c.number_of-number.ensures)
