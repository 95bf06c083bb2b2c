-- The library's reader and writer meet the three demands. Assumes nothing.
use Prim.Native.Nat.{ℕ}
use mathlib.Core.Path.{◌≡◌, refl, sym, ap, ◌∙◌}
use mathlib.Core.Logic.{◌⊎◌, inl, inr}
use mathlib.Core.Bool.{Bool, true, false, cond}
use mathlib.Core.List.{List}
use lib.Dec.{eqb}
use lib.ListN.{length, length-map}
use borrow.Author.Tests.{eqb-true}
use Rattle.edition.specs.declared.Edition.{Edition}
use Rattle.card.specs.declared.Record.{Record}
use Rattle.card.specs.declared.Refusal.{Refusal}
use Rattle.card.specs.Content.{Content, content_of, record_of, numbered, empty_record, value_of}
use Rattle.card.specs.Refusals.{none}
use Rattle.card.specs.Layout.{objects_at, layout}
use Rattle.card.specs.Rules.{object_rows, AllMet, Allowed, Meets}
use Rattle.card.proofs.Records.{content_back, number_back}
use Rattle.card.specs.declared.Reading.{Reading}
use Rattle.card.specs.Frame.{start_of}
use Rattle.card.specs.Reading.{Answer, accepted, refused, answer, answer_of, reading}
use Rattle.card.specs.Refusing.{write_refusal}
use Rattle.card.specs.Writing.{record_refusal, buffer_after}
use Rattle.nesting.specs.Nested.{Nested}
use Rattle.demands.specs.Unmet.{FirstUnmet}
use Rattle.demands.specs.Demands.{Accepts, Refuses, LentEdition, LentRecord, ReadingSays, Demand1, Demand2, InnerReads, same, first, Demand3, Demands, library_reader, library_writer}
use Rattle.demands.proofs.Accepts.{reads}
use Rattle.demands.proofs.ReadComplete.{objects_start}
use Rattle.demands.proofs.NestedLaws.{inner_reads, outer_accepts, outer_allows, fault_numbered}
use Rattle.demands.proofs.Writes.{written_in, allowed_written, write_after_read, read_buffer_after, buffer_after_read}
use Rattle.demands.proofs.ReadingSays.{reading_says, reading_some}
use Rattle.demands.proofs.WritingSays.{writing_says, zero_is_none}

-- ---- an accepting answer is that of a content
accepting : (e : Edition) (s : List ℕ) → Accepts library_reader e s → (c : Content) × (answer e s ≡ accepted c)
unfolding answer_of
accepting e s h = go (answer e s) refl h
  where
    go : (a : Answer) → answer e s ≡ a → (answer_of e.number a).refusal ≡ none → (c : Content) × (answer e s ≡ accepted c)
    go (accepted c) q z = (c, q)
    go (refused x) q z = absurd (reading_some e s x q (ap (λ (y : Refusal). y.number) z))

accepted_reads : (e : Edition) (s : List ℕ) (c : Content) → answer e s ≡ accepted c → reading e s ≡ record { refusal = none; content = record_of e.number c }
unfolding answer_of
accepted_reads e s c a = rw a

refused_reads : (e : Edition) (s : List ℕ) (x : Refusal) → answer e s ≡ refused x → reading e s ≡ record { refusal = x; content = empty_record }
unfolding answer_of
refused_reads e s x a = rw a

accepted_accepts : (e : Edition) (s : List ℕ) (c : Content) → answer e s ≡ accepted c → Accepts library_reader e s
accepted_accepts e s c a = ap (λ (r : Reading). r.refusal) (accepted_reads e s c a)

accepted_content : (e : Edition) (s : List ℕ) (c : Content) → answer e s ≡ accepted c → (reading e s).content ≡ record_of e.number c
accepted_content e s c a = ap (λ (r : Reading). r.content) (accepted_reads e s c a)

-- ---- demand 1
demand1 : Demand1 library_reader library_writer
unfolding answer_of buffer_after content_of
demand1 = record {
  read_says = λ e s n. says e s n (answer e s) refl;
  read_empty = λ e s. empty e.number (answer e s);
  write_says = λ e r b n l h. writing_says e r.number (content_of r) (length b) n (length-map r.objects value_of ∙ l.objects) (λ z. h (zero_is_none e r.number (content_of r) (length b) z));
  write_leaves = λ e r b h. leaves e r b (eqb (record_refusal e r b).number 0) refl h;
}
  where
    says : (e : Edition) (s : List ℕ) → LentEdition e → (a : Answer) → answer e s ≡ a → Refuses library_reader e s → ReadingSays e (answer_of e.number a).refusal
    says e s n (accepted c) q h = absurd (h (accepted_accepts e s c q))
    says e s n (refused x) q h = reading_says e s x n q

    empty : (number : ℕ) (a : Answer) → ((answer_of number a).refusal ≡ none → ⊥) → (answer_of number a).content ≡ empty_record
    empty number (accepted c) h = absurd (h refl)
    empty number (refused x) h = refl

    leaves : (e : Edition) (r : Record) (b : List ℕ) (q : Bool) → eqb (record_refusal e r b).number 0 ≡ q → (record_refusal e r b ≡ none → ⊥) → cond q (layout (content_of r)) b ≡ b
    leaves e r b true t h = absurd (h (zero_is_none e r.number (content_of r) (length b) (eqb-true _ _ t)))
    leaves e r b false t h = refl

-- ---- demand 2
second : Demand2 library_reader library_writer
unfolding content_of
second = record {
  accepts = λ e s n. (meets e s n, met e s n);
  holds = λ e s n m. accepted_content e s m.content ((reads e s m.content n).1 (m.allowed, m.drawn));
  writes = λ e r b n l. (λ z. allowed e r b n l z, λ a. rw (a.1, a.2) (allowed_written e (content_of r) a.0));
  back = back;
  forth = forth;
}
  where
    meets : (e : Edition) (s : List ℕ) → LentEdition e → Accepts library_reader e s → Meets e s
    meets e s n h =
        let a = accepting e s h in
        let m : Allowed e a.0 × (layout a.0 ≡ s) = (reads e s a.0 n).0 a.1 in
        record { content = a.0; allowed = m.0; drawn = m.1 }

    met : (e : Edition) (s : List ℕ) → LentEdition e → Meets e s → Accepts library_reader e s
    met e s n m = accepted_accepts e s m.content ((reads e s m.content n).1 (m.allowed, m.drawn))

    allowed : (e : Edition) (r : Record) (b : List ℕ) → LentEdition e → LentRecord r → record_refusal e r b ≡ none → Allowed e (content_of r) × (r.number ≡ e.number) × (length b ≡ 256)
    allowed e r b n l z =
        let w = written_in e r.number (content_of r) (length b) (ap (λ (x : Refusal). x.number) z) l.free (length-map r.objects value_of ∙ l.objects) n in
        (w.2, w.1, w.0)

    back : (e : Edition) (s b : List ℕ) → LentEdition e → length b ≡ 256 → Accepts library_reader e s
        → library_writer e (reading e s).content b ≡ record { refusal = none; buffer = s }
    back e s b n size h =
        let a = accepting e s h in
        let w : write_refusal e e.number a.0 256 ≡ none = (write_after_read e s a.0 n a.1).0 in
        let r : record_refusal e (record_of e.number a.0) b ≡ none = rw (content_back e.number a.0, number_back e.number a.0, size) w in
        rw (accepted_content e s a.0 a.1, r, buffer_after_read e s b a.0 n size a.1)

    forth : (e : Edition) (r : Record) (b : List ℕ) → LentEdition e → LentRecord r → record_refusal e r b ≡ none
        → Accepts library_reader e (buffer_after e r b) × (content_of (reading e (buffer_after e r b)).content ≡ content_of r)
        × ((reading e (buffer_after e r b)).content.number ≡ r.number)
    forth e r b n l z =
        let a : answer e (buffer_after e r b) ≡ accepted (content_of r) = read_buffer_after e r b n l.free l.objects (ap (λ (x : Refusal). x.number) z) in
        let is = accepted_content e (buffer_after e r b) (content_of r) a in (
          accepted_accepts e (buffer_after e r b) (content_of r) a,
          ap content_of is ∙ content_back e.number (content_of r),
          ap (λ (x : Record). x.number) is ∙ number_back e.number (content_of r) ∙ sym (allowed e r b n l z).1,
        )

-- ---- demand 3
module _ (i o : Edition) (li : LentEdition i) (lo : LentEdition o) (n : Nested i o) where
  outer-reads : (s : List ℕ) (m : Meets o s) → answer o s ≡ accepted m.content
  outer-reads s m = (reads o s m.content lo).1 (m.allowed, m.drawn)

  inner : (s : List ℕ) (m : Meets o s) → InnerReads i m.content (reading i s)
  inner s m = cases (inner_reads i o s m.content lo n (outer-reads s m))
    where
      c : Content
      c = m.content

      start : start_of s ≡ objects_at c
      start = objects_start o s c m.allowed m.drawn

      cases : (AllMet (object_rows i) c.values × (answer i s ≡ accepted c))
          ⊎ ((x : Refusal) × FirstUnmet (object_rows i) (start_of s) c.values x × (answer i s ≡ refused x)) → InnerReads i c (reading i s)
      cases (inl (all, q)) = rw (accepted_reads i s c q) (same all)
      cases (inr (x, f, q)) = rw (refused_reads i s x q) (first x (rw start at f) (fault_numbered f))

  refuses : (s : List ℕ) → (Meets o s → ⊥) → Refuses library_reader o s × Refuses library_reader i s
  refuses s h = (
    λ a. let c = accepting o s a in h (met s c.0 c.1),
    λ a. let c = accepting i s a in h (met s c.0 (outer_accepts i o s c.0 lo n c.1)),
  )
    where
      met : (s : List ℕ) (c : Content) → answer o s ≡ accepted c → Meets o s
      met s c a =
          let m : Allowed o c × (layout c ≡ s) = (reads o s c lo).0 a in
          record { content = c; allowed = m.0; drawn = m.1 }

  written : (e : Edition) (r : Record) (b : List ℕ) → Allowed e (content_of r) → r.number ≡ e.number → length b ≡ 256 → library_writer e r b ≡ record { refusal = none; buffer = layout (content_of r) }
  unfolding buffer_after content_of
  written e r b a own size =
      let w : record_refusal e r b ≡ none = rw (own, size) (allowed_written e (content_of r) a) in
      rw w

  writes : (r : Record) (b : List ℕ) → LentRecord r → Allowed i (content_of r) → r.number ≡ i.number → length b ≡ 256
      → (library_writer i r b ≡ record { refusal = none; buffer = layout (content_of r) }) × (library_writer o (numbered o.number r) b ≡ library_writer i r b)
  unfolding content_of
  writes r b l a own size =
      let p = written i r b a own size in
      (p, written o (numbered o.number r) b (outer_allows i o (content_of r) n a) refl size ∙ sym p)

  third : Demand3 library_reader library_writer i o
  third = record { refuses = refuses; reads = λ s m. (accepted_reads o s m.content (outer-reads s m), inner s m); writes = writes }

-- the library meets the three demands
pub library : Demands library_reader library_writer
library = record { first = demand1; second = second; third = third }
