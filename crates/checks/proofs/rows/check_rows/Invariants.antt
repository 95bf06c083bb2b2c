-- `checks::rows::check_rows` meets its contract. The invariant: the rows passed refuse nothing, so the answer is that of the rows from i on. Assumes nothing.
use mathlib.Core.Path.{◌≡◌}
use Rattle.card.specs.Content.{content_of}
use Rattle.card.specs.Rules.{object_rows}
use Rattle.card.specs.Refusing.{rows_refusal}
use Rattle.wire_records.specs.Records.{lent_record}
use Rattle.checks.proofs.Faults.{rows_from}
use Rattle.checks.proofs.rows.check_rows.Given as goal

abbrev pub invariant-loop-i : goal.invariant-loop-i
invariant-loop-i l =
    rows_from l.i l.edition.rows (lent_record l.bytes).objects ≡ rows_refusal (object_rows l.edition) (content_of (lent_record l.bytes)).values
