-- `take_lines::with_line` meets its contract, by its tests. Assumes nothing.
use mathlib.Core.Path.{sym, ◌∙◌}
use borrow.Author.Tests.{eq-eqb, ne_eqb, lt-ltb, le-ltb}
use Rattle.table_take.specs.Taking.{with_line}
use Rattle.take_lines.proofs.with_line.Goals as goal

pub returns-then-state-ne0 : goal.returns-then-state-ne0
unfolding with_line
returns-then-state-ne0 c = rw (ne_eqb _ 0 c.if-state-ne0.true)

pub returns-then-is_remark : goal.returns-then-is_remark
unfolding with_line
returns-then-is_remark c = rw (eq-eqb _ 0 c.if-state-ne0.false, sym c.is_remark.ensures ∙ c.if-is_remark.true)

pub returns-then-state-gt17 : goal.returns-then-state-gt17
unfolding with_line
returns-then-state-gt17 c = rw (eq-eqb _ 0 c.if-state-ne0.false, sym c.is_remark.ensures ∙ c.if-is_remark.false, lt-ltb 17 _ c.if-state-gt17.true) c.refused.ensures

pub returns-then-got-ne0 : goal.returns-then-got-ne0
unfolding with_line
returns-then-got-ne0 c = rw (eq-eqb _ 0 c.if-state-ne0.false, sym c.is_remark.ensures ∙ c.if-is_remark.false, le-ltb 17 _ c.if-state-gt17.false, ← c.line_taken-got.ensures, ne_eqb _ 0 c.if-got-ne0.true) c.refused-then-got-ne0.ensures

pub returns : goal.returns
unfolding with_line
returns c = rw (eq-eqb _ 0 c.if-state-ne0.false, sym c.is_remark.ensures ∙ c.if-is_remark.false, le-ltb 17 _ c.if-state-gt17.false, ← c.line_taken-got.ensures, eq-eqb _ 0 c.if-got-ne0.false) c.stored.ensures
