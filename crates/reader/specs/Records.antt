-- What a table of places makes of some bytes.
use Rattle.std.specs.Prelude.{ℕ, cond, List, eqb}
use Rattle.card.specs.declared.Places.{Places}
use Rattle.card.specs.declared.Reading.{Reading}
use Rattle.card.specs.Refusals.{none}
use Rattle.card.specs.Content.{record_of, empty_record}
use Rattle.card.specs.Reading.{content_at}
use Rattle.reader_steps.specs.Steps.{values_at}

-- the record of the values at the places, with a number; or the table's refusal and the empty record
unfoldable pub read_at : Places → List ℕ → ℕ → Reading
read_at t s number =
    cond (eqb t.refusal.number 0)
    (record { refusal = none; content = record_of number (content_at s (values_at s t.starts t.lengths)) })
    (record { refusal = t.refusal; content = empty_record })
