-- `text_values::digits_due`: the test of the definition. Assumes nothing.
use borrow.Author.Tests.{eq-eqb, ne_eqb}
use Rattle.text_values.proofs.digits_due.Goals as goal

pub returns-then-key-eq-FREE : goal.returns-then-key-eq-FREE
returns-then-key-eq-FREE c = rw (eq-eqb _ 17 c.if-key-eq-FREE.true)

pub returns-else-key-eq-FREE : goal.returns-else-key-eq-FREE
returns-else-key-eq-FREE c = rw (ne_eqb _ 17 c.if-key-eq-FREE.false)
