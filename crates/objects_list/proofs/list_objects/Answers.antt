-- `objects_list::list_objects` meets its contract: the test is that of the definition. Assumes nothing.
use mathlib.Core.Path.{ap, ◌∙◌}
use borrow.Author.Tests.{leb-true}
use lib.Dec.{leb}
use lib.ListN.{length}
use Rattle.ground.proofs.Lists.{and_left, and_right}
use Rattle.card.specs.Places.{no_places}
use Rattle.objects.specs.Objects.{listed}
use Rattle.objects_list.proofs.list_objects.Goals as goal

pub list_rows-requires : goal.list_rows-requires
list_rows-requires c =
    let a = c.args in
    let low = leb a.from 33 in
    let short = leb (length a.template.now) 212 in
    (leb-true _ _ (and_left low short c.if-from-template.true), leb-true _ _ (and_right low short c.if-from-template.true), c.kinds-kinds.ensures)

pub returns-then-from-template : goal.returns-then-from-template
unfolding listed
returns-then-from-template c = rw c.if-from-template.true c.list_rows.ensures

pub returns : goal.returns
unfolding listed
returns c = rw c.if-from-template.false (c.refused.ensures ∙ ap no_places c.new.ensures)
