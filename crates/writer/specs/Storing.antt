-- What a record is that no check refuses: its bytes have their room.
use Rattle.std.specs.Prelude.{ℕ, ◌≤◌, ◌≡◌, cond, List, eqb, length, get_or}
use Rattle.edition.specs.declared.Edition.{Edition}
use Rattle.card.specs.declared.Object.{Object}
use Rattle.card.specs.declared.Record.{Record}
use Rattle.card.specs.Content.{content_of}
use Rattle.card.specs.Layout.{template_length, objects_of, layout}
use Rattle.card.specs.Content.{no_object}
use Rattle.wire_records.specs.Records.{lent_record}
use Rattle.checks.specs.Lending.{lent_refusal}

-- no object claims more than its 28 bytes
abbrev pub Short : List Object → Type 0
Short os = (i : ℕ) → (get_or os i no_object).length ≤ 28

pub record Storable (r : Record) : Type 0 where
  pub short : Short r.objects
  pub most : template_length (objects_of (content_of r)) ≤ 212

-- 479 lent bytes of such a record
pub record Lendable (bytes : List ℕ) : Type 0 where
  pub sized : length bytes ≡ 479
  pub storable : Storable (lent_record bytes)

-- the buffer behind a lent record: a refusal leaves it unchanged
unfoldable pub lent_after : Edition → List ℕ → List ℕ → List ℕ
lent_after e bytes buffer = cond (eqb (lent_refusal e bytes (length buffer)).number 0) (layout (content_of (lent_record bytes))) buffer
