-- `take_words::missing` meets its contract, by its tests. Assumes nothing.
use borrow.Author.Tests.{eq-eqb, ne_eqb, lt-ltb, le-ltb}
use Rattle.table_take.specs.Words.{missing}
use Rattle.take_words.proofs.missing.Goals as goal

pub returns-then-field-lt2 : goal.returns-then-field-lt2
unfolding missing
returns-then-field-lt2 c = rw (eq-eqb _ 0 c.if-due-eq0.true, lt-ltb _ 2 c.if-field-lt2.true)

pub returns-then-due-eq0 : goal.returns-then-due-eq0
unfolding missing
returns-then-due-eq0 c = rw (eq-eqb _ 0 c.if-due-eq0.true, le-ltb _ 2 c.if-field-lt2.false)

pub returns-then-field-lt5 : goal.returns-then-field-lt5
unfolding missing
returns-then-field-lt5 c = rw (ne_eqb _ 0 c.if-due-eq0.false, lt-ltb _ 5 c.if-field-lt5.true)

pub returns : goal.returns
unfolding missing
returns c = rw (ne_eqb _ 0 c.if-due-eq0.false, le-ltb _ 5 c.if-field-lt5.false)
