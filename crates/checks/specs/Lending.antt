-- What a lent record is refused with: 20 for its size, and then as a record.
use Rattle.std.specs.Prelude.{ℕ, List, eqb, length}
use Rattle.edition.specs.declared.Edition.{Edition}
use Rattle.card.specs.declared.Refusal.{Refusal}
use Rattle.card.specs.Content.{content_of}
use Rattle.card.specs.Refusals.{refuse, gate}
use Rattle.card.specs.Refusing.{write_refusal}
use Rattle.wire_records.specs.Records.{lent_record}

unfoldable pub lent_refusal : Edition → List ℕ → ℕ → Refusal
lent_refusal e bytes size = gate (eqb (length bytes) 479) (refuse 20 0 0) (write_refusal e (lent_record bytes).number (content_of (lent_record bytes)) size)
