-- `checks::check_lent` meets its contract: 20 for the record's size; the lent edition comes with its refusal. Assumes nothing.
use mathlib.Core.Path.{ap, ◌∙◌}
use borrow.Author.Tests.{eq-eqb, ne_eqb}
use Rattle.card.specs.Content.{content_of}
use Rattle.card.specs.Refusals.{gate}
use Rattle.card.specs.Refusing.{write_refusal}
use Rattle.shipped_tables.specs.declared.Lent.{Lent}
use Rattle.wire_records.specs.Records.{lent_record}
use Rattle.checks.specs.Lending.{lent_refusal}
use Rattle.checks.proofs.check_lent.Goals as goal

pub returns-then-bytes-ne479 : goal.returns-then-bytes-ne479
unfolding lent_refusal gate
returns-then-bytes-ne479 c = rw (ne_eqb _ 479 c.if-bytes-ne479.true) c.new.ensures

pub check_under-requires : goal.check_under-requires
check_under-requires c = (rw c.lent_edition-lent.ensures, c.if-bytes-ne479.false)

pub returns : goal.returns
unfolding lent_refusal gate
returns c =
    let a = c.args in
    let r = lent_record a.bytes.now in
    rw (eq-eqb _ _ c.if-bytes-ne479.false)
    (c.check_under.ensures ∙ ap (λ (l : Lent). write_refusal l.edition r.number (content_of r) a.size) c.lent_edition-lent.ensures)
