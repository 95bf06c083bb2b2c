-- `reader_places::places_lent` meets its contract: the lent edition comes with its refusal. Assumes nothing.
use mathlib.Core.Path.{◌≡◌, ap, ◌∙◌}
use Rattle.edition.specs.Rows.{formed_of}
use Rattle.card.specs.Refusals.{bad_row}
use Rattle.card.specs.Places.{places}
use Rattle.shipped_tables.specs.declared.Lent.{Lent}
use Rattle.reader_places.proofs.places_lent.Goals as goal

pub returns : goal.returns
returns c =
    let own : c.lent_edition-lent.result.refusal ≡ bad_row (formed_of c.lent_edition-lent.result.edition) =
    rw c.lent_edition-lent.ensures in
    let a = c.args in
    c.places_under.ensures.value_2 (own) ∙ ap (λ (l : Lent). places l.edition a.image.now) c.lent_edition-lent.ensures
