-- The three demands, as predicates of any reader and any writer.
use Rattle.std.specs.Prelude.{ℕ, ◌<◌, ◌≡◌, ◌↔◌, true, List, [], ◌∷◌, length, get_or}
use Rattle.edition.specs.declared.Edition.{Edition}
use Rattle.ground.specs.Lists.{among}
use Rattle.edition.specs.Rows.{tag_of, no_row}
use Rattle.card.specs.declared.Record.{Record}
use Rattle.card.specs.declared.Refusal.{Refusal}
use Rattle.card.specs.declared.Reading.{Reading}
use Rattle.card.specs.Content.{Content, content_of, record_of, numbered, empty_record}
use Rattle.card.specs.Refusals.{refuse, refuse_length, none}
use Rattle.card.specs.Layout.{objects_at, layout}
use Rattle.card.specs.Rules.{object_rows, AllMet, Allowed, Meets}
use Rattle.card.specs.Reading.{reading}
use Rattle.card.specs.Writing.{record_refusal, buffer_after}
use Rattle.nesting.specs.Nested.{Nested}
use Rattle.demands.specs.Unmet.{FirstUnmet}

abbrev pub Reader : Type 0
Reader = Edition → List ℕ → Reading

pub record Written : Type 0 where
  pub refusal : Refusal
  pub buffer : List ℕ

abbrev pub Writer : Type 0
Writer = Edition → Record → List ℕ → Written

-- what the types say of a lent edition and a lent record
abbrev pub LentEdition : Edition → Type 0
LentEdition e = length e.rows ≡ 17

pub record LentRecord (r : Record) : Type 0 where
  pub free : length r.free ≡ 12
  pub objects : length r.objects ≡ 16

abbrev pub Accepts : Reader → Edition → List ℕ → Type 0
Accepts read e s = (read e s).refusal ≡ none

abbrev pub Refuses : Reader → Edition → List ℕ → Type 0
Refuses read e s = Accepts read e s → ⊥

-- the permitted lengths of row k
abbrev pub lengths_of : Edition → ℕ → ℕ
lengths_of e k = (get_or e.rows k no_row).lengths

-- what a reading may be refused with: the place is an address; the tag is that of a row with 2, 6, 7, 8, 9, 10 and 11, else 0; with 7 come the ends of that row's set, else 0;
-- 2 has tag 0 for an edition numbered 0
pub data ReadingSays (e : Edition) : Refusal → Type 0 where
  no-row : (number place : ℕ) → among number (1 ∷ 3 ∷ 4 ∷ 5 ∷ 12 ∷ 13 ∷ 14 ∷ 15 ∷ 16 ∷ 17 ∷ []) ≡ true → place < 256 → ReadingSays e (refuse number place 0)
  of_row : (number place k : ℕ) → among number (2 ∷ 6 ∷ 8 ∷ 9 ∷ 10 ∷ 11 ∷ []) ≡ true → place < 256 → k < 17 → ReadingSays e (refuse number place (tag_of k))
  of_length : (place k : ℕ) → place < 256 → k < 17 → ReadingSays e (refuse_length place (tag_of k) (lengths_of e k))
  unnumbered : e.number ≡ 0 → ReadingSays e (refuse 2 0 0)

-- what a writing may be refused with: the place is 0, but with 9 an index within the value of the row's object
pub data WritingSays (e : Edition) (c : Content) : Refusal → Type 0 where
  no-row : (number : ℕ) → among number (3 ∷ 4 ∷ 20 ∷ 22 ∷ []) ≡ true → WritingSays e c (refuse number 0 0)
  of_row : (number k : ℕ) → among number (2 ∷ 6 ∷ 10 ∷ 11 ∷ []) ≡ true → k < 17 → WritingSays e c (refuse number 0 (tag_of k))
  of_length : (k : ℕ) → k < 16 → WritingSays e c (refuse_length 0 (tag_of k) (lengths_of e k))
  of-byte : (i k : ℕ) → k < 16 → i < length (get_or c.values k []) → WritingSays e c (refuse 9 i (tag_of k))
  unnumbered : e.number ≡ 0 → WritingSays e c (refuse 2 0 0)

-- 1: whatever is lent, a refusal says one of these; a refused reading hands out the empty record, a refused writing leaves the buffer
pub record Demand1 (read : Reader) (write : Writer) : Type 0 where
  pub read_says : (e : Edition) (s : List ℕ) → LentEdition e → Refuses read e s → ReadingSays e (read e s).refusal
  pub read_empty : (e : Edition) (s : List ℕ) → Refuses read e s → (read e s).content ≡ empty_record
  pub write_says : (e : Edition) (r : Record) (b : List ℕ) → LentEdition e → LentRecord r → ((write e r b).refusal ≡ none → ⊥) → WritingSays e (content_of r) (write e r b).refusal
  pub write_leaves : (e : Edition) (r : Record) (b : List ℕ) → ((write e r b).refusal ≡ none → ⊥) → (write e r b).buffer ≡ b

-- 2: accepted exactly where every rule is met; the record then holds what stands on the card, and the edition's number; written exactly where the edition allows it and the numbers are the same; the two round trips
pub record Demand2 (read : Reader) (write : Writer) : Type 0 where
  pub accepts : (e : Edition) (s : List ℕ) → LentEdition e → Accepts read e s ↔ Meets e s
  pub holds : (e : Edition) (s : List ℕ) → LentEdition e → (m : Meets e s) → (read e s).content ≡ record_of e.number m.content
  pub writes : (e : Edition) (r : Record) (b : List ℕ) → LentEdition e → LentRecord r → ((write e r b).refusal ≡ none) ↔ (Allowed e (content_of r) × (r.number ≡ e.number) × (length b ≡ 256))
  pub back : (e : Edition) (s b : List ℕ) → LentEdition e → length b ≡ 256 → Accepts read e s
      → write e (read e s).content b ≡ record { refusal = none; buffer = s }
  pub forth : (e : Edition) (r : Record) (b : List ℕ) → LentEdition e → LentRecord r → (write e r b).refusal ≡ none
      → Accepts read e (write e r b).buffer × (content_of (read e (write e r b).buffer).content ≡ content_of r)
      × ((read e (write e r b).buffer).content.number ≡ r.number)

-- what the inner reads of a card that meets every rule of the outer with this content: the same record but for the number, or the refusal of its first row that is not met
pub data InnerReads (inner : Edition) (c : Content) : Reading → Type 0 where
  same : AllMet (object_rows inner) c.values → InnerReads inner c (record { refusal = none; content = record_of inner.number c })
  first : (x : Refusal) → FirstUnmet (object_rows inner) (objects_at c) c.values x → among x.number (6 ∷ 7 ∷ 9 ∷ 10 ∷ []) ≡ true
      → InnerReads inner c (record { refusal = x; content = empty_record })

-- 3: for any two editions, the inner nested in the outer. It speaks of what meets the outer's rules and of what the inner allows, and not of what the reader and the writer say of themselves
pub record Demand3 (read : Reader) (write : Writer) (inner outer : Edition) : Type 0 where
  pub refuses : (s : List ℕ) → (Meets outer s → ⊥) → Refuses read outer s × Refuses read inner s
  pub reads : (s : List ℕ) (m : Meets outer s) → (read outer s ≡ record { refusal = none; content = record_of outer.number m.content }) × InnerReads inner m.content (read inner s)
  pub writes : (r : Record) (b : List ℕ) → LentRecord r → Allowed inner (content_of r) → r.number ≡ inner.number → length b ≡ 256
      → (write inner r b ≡ record { refusal = none; buffer = layout (content_of r) }) × (write outer (numbered outer.number r) b ≡ write inner r b)

abbrev pub Third : Reader → Writer → Type 0
Third read write = (inner outer : Edition) → LentEdition inner → LentEdition outer → Nested inner outer → Demand3 read write inner outer

pub record Demands (read : Reader) (write : Writer) : Type 0 where
  pub first : Demand1 read write
  pub second : Demand2 read write
  pub third : Third read write

-- the library's reader and writer: what the contracts of `read` and `write` say, and nothing else
abbrev pub library_reader : Reader
library_reader = reading

abbrev pub library_writer : Writer
library_writer e r b = record { refusal = record_refusal e r b; buffer = buffer_after e r b }
