-- `differences::entries::unlike_entry` meets its contract, by its tests. Assumes nothing.
use borrow.Author.Tests.{eq-eqb, ne_eqb}
use Rattle.differences.proofs.entries.unlike_entry.Goals as goal

pub returns-then-first-eq0 : goal.returns-then-first-eq0
returns-then-first-eq0 c = rw (eq-eqb _ 0 c.if-first-eq0.true) c.word_of.ensures

pub returns-then-second-eq0 : goal.returns-then-second-eq0
returns-then-second-eq0 c = rw (ne_eqb _ 0 c.if-first-eq0.false, eq-eqb _ 0 c.if-second-eq0.true) c.word_of-then-second-eq0.ensures

pub returns : goal.returns
returns c = rw (ne_eqb _ 0 c.if-first-eq0.false, ne_eqb _ 0 c.if-second-eq0.false) c.word_of-2.ensures
