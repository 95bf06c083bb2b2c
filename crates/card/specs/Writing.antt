-- The answer to a record, and the buffer behind it.
use Rattle.std.specs.Prelude.{cond, List, ℕ, eqb, length}
use Rattle.edition.specs.declared.Edition.{Edition}
use Rattle.card.specs.declared.Record.{Record}
use Rattle.card.specs.declared.Refusal.{Refusal}
use Rattle.card.specs.Content.{content_of, numbered}
use Rattle.card.specs.Layout.{layout}
use Rattle.card.specs.Refusing.{edition_refusal, write_refusal}

abbrev pub record_refusal : Edition → Record → List ℕ → Refusal
record_refusal e r buffer = write_refusal e r.number (content_of r) (length buffer)

-- the separate call: what writing would tell of the record with the edition's number put on; the record with that number, or as it came
abbrev pub renumber_refusal : Edition → Record → Refusal
renumber_refusal e r = edition_refusal e (content_of r)

unfoldable pub renumbered : Edition → Record → Record
renumbered e r = cond (eqb (renumber_refusal e r).number 0) (numbered e.number r) r

-- a refusal leaves the buffer unchanged; otherwise all 256 bytes are written
unfoldable pub buffer_after : Edition → Record → List ℕ → List ℕ
buffer_after e r buffer = cond (eqb (record_refusal e r buffer).number 0) (layout (content_of r)) buffer
