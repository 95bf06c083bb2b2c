-- `take_words::row_word` meets its contract, by how many words there were. Assumes nothing.
use borrow.Author.Tests.{ne_eqb}
use Rattle.table_take.specs.Words.{with_presence, with_rule, with_lengths, row_word}
use Rattle.take_words.proofs.row_word.Goals as goal

pub returns-then-got-eq0 : goal.returns-then-got-eq0
unfolding row_word
returns-then-got-eq0 c = rw (c.if-got-eq0.true, ← c.is_tag.ensures, ← c.fault.ensures) c.marked.ensures

pub returns-then-got-eq1 : goal.returns-then-got-eq1
unfolding row_word
returns-then-got-eq1 c = rw (c.if-got-eq1.true, ← c.is_word.ensures, ← c.fault-then-got-eq1.ensures) c.marked-then-got-eq1.ensures

pub returns-then-got-eq2 : goal.returns-then-got-eq2
unfolding row_word with_presence
returns-then-got-eq2 c = rw c.if-got-eq2.true c.with_presence.ensures

pub returns-then-got-eq3 : goal.returns-then-got-eq3
unfolding row_word with_rule
returns-then-got-eq3 c = rw c.if-got-eq3.true c.with_rule.ensures

pub returns-then-got-eq4 : goal.returns-then-got-eq4
unfolding row_word with_lengths
returns-then-got-eq4 c = rw c.if-got-eq4.true c.with_lengths.ensures

pub returns : goal.returns
unfolding row_word
returns c = rw (ne_eqb _ 0 c.if-got-eq0.false, ne_eqb _ 1 c.if-got-eq1.false, ne_eqb _ 2 c.if-got-eq2.false, ne_eqb _ 3 c.if-got-eq3.false, ne_eqb _ 4 c.if-got-eq4.false) c.marked-2.ensures
