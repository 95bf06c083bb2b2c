-- `objects_refusals::refuse` meets its contract: only 7 tells ends. Assumes nothing.
use borrow.Author.Tests.{ne_eqb}
use Rattle.objects.specs.Objects.{with_ends}
use Rattle.objects_refusals.proofs.refuse.Goals as goal

pub returns-then-number-eq7 : goal.returns-then-number-eq7
unfolding with_ends
returns-then-number-eq7 c = rw c.if-number-eq7.true c.of_length.ensures

pub returns-else-number-eq7 : goal.returns-else-number-eq7
unfolding with_ends
returns-else-number-eq7 c = rw (ne_eqb _ _ c.if-number-eq7.false) c.new.ensures
