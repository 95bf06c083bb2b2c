-- `example_values::sample_for` meets its contract: the witness is asked for beside the outer row, or beside a plain one. Assumes nothing.
use borrow.Author.Tests.{eq-eqb, ne_eqb}
use Rattle.example.specs.Cards.{sample_for}
use Rattle.example_values.proofs.sample_for.Goals as goal

pub returns-then-part-eq2 : goal.returns-then-part-eq2
unfolding sample_for
returns-then-part-eq2 c = rw (eq-eqb _ _ c.if-part-eq2.true) c.witness.ensures

pub returns : goal.returns
unfolding sample_for
returns c = rw (ne_eqb _ _ c.if-part-eq2.false) c.witness-2.ensures
