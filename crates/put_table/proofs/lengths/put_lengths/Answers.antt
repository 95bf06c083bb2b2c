-- `lengths::put_lengths` meets its contract, by its test. Assumes nothing.
use borrow.Author.Tests.{eq-eqb, ne_eqb}
use Rattle.table_text.specs.Texts.{lengths_text}
use native.Mathlib.Omega.{arith}
use Rattle.put_table.proofs.lengths.put_lengths.Goals as goal

pub returns-then-set-eq0 : goal.returns-then-set-eq0
unfolding lengths_text
returns-then-set-eq0 c =
    record { put = rw (eq-eqb _ 0 c.if-set-eq0.true) c.put_word.ensures.put; upper_bound = omega (arith, c.put_word.ensures.upper_bound) }

pub returns : goal.returns
unfolding lengths_text
returns c =
    record { put = rw (ne_eqb _ 0 c.if-set-eq0.false) c.put_listed.ensures.put; upper_bound = c.put_listed.ensures.upper_bound }
