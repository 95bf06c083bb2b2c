-- The writer writes exactly the contents that an edition allows, and the round trips. Assumes nothing.
use Prim.Native.Nat.{ℕ}
use native.Mathlib.Omega.{arith}
use mathlib.Core.Path.{◌≡◌, refl, sym, ◌∙◌}
use mathlib.Core.Bool.{Bool, ◌&&◌}
use mathlib.Core.List.{List, [], ◌∷◌}
use lib.ListN.{length, length-map}
use lib.Dec.{leb}
use borrow.Author.Tests.{eqb-true, eq-eqb, leb-true, le-leb}
use Rattle.edition.specs.declared.Edition.{Edition}
use Rattle.ground.proofs.Lists.{and_left, and_right}
use Rattle.card.specs.declared.Record.{Record}
use Rattle.card.specs.Content.{Content, value_of, content_of, record_of}
use Rattle.card.specs.Refusals.{none, gate, or_else, bad_row}
use Rattle.card.specs.Layout.{template_length, objects_of, layout}
use Rattle.card.specs.Rules.{Entry, AllMet, none_left, one_more, fault, Allowed}
use Rattle.card.proofs.Records.{content_back, number_back}
use Rattle.card.proofs.Chains.{neither, gate_in, table_well}
use Rattle.card.specs.Reading.{accepted, answer}
use Rattle.card.specs.Sums.{sums_refusal}
use Rattle.card.specs.Refusing.{row_refusal, rows_refusal, ends_refusal, template_refusal, number_refusal, content_refusal, write_refusal}
use Rattle.card.specs.Writing.{record_refusal, buffer_after}
use Rattle.card.proofs.Walks.{fault_met}
use Rattle.card.proofs.Unrefused.{row_in}
use Rattle.card.proofs.Seventeen.{table_of}
use Rattle.demands.proofs.ReadSound.{read_sound}
use Rattle.demands.proofs.ReadComplete.{read_complete}

-- ---- a chain of rows that refuses nothing
rows_in : (rs : List Entry) (vs : List (List ℕ)) → length vs ≡ length rs → (rows_refusal rs vs).number ≡ 0 → AllMet rs vs
unfolding rows_refusal
rows_in [] [] n h = none_left
rows_in [] (v ∷ vs) n h = absurd (omega arith)
rows_in (r ∷ rs) [] n h = absurd (omega arith)
rows_in (r ∷ rs) (v ∷ vs) n h =
    let a = neither (row_refusal r (fault r.row v)) (rows_refusal rs vs) h in
    one_more (row_in r v (fault r.row v) refl a.first) (rows_in rs vs (omega arith) a.second)

rows_out : {rs : List Entry} {vs : List (List ℕ)} → AllMet rs vs → rows_refusal rs vs ≡ none
unfolding rows_refusal row_refusal or_else
rows_out none_left = refl
rows_out (one_more {r} {v} m a) = rw (fault_met r.row v m, rows_out a)

-- ---- what is written is allowed, and what is allowed is written
abbrev fits : Content → Bool
fits c = leb 70 (template_length (objects_of c)) && leb (template_length (objects_of c)) 212

pub written_in : (e : Edition) (number : ℕ) (c : Content) (n : ℕ) → (write_refusal e number c n).number ≡ 0 → length c.free ≡ 12 → length c.values ≡ 16 → length e.rows ≡ 17
    → (n ≡ 256) × (number ≡ e.number) × Allowed e c
unfolding write_refusal number_refusal content_refusal ends_refusal sums_refusal template_refusal
written_in e number c n z free values rows =
    let n1 = neither _ _ z in
    let n2 = neither _ _ n1.second in
    let m = neither _ _ n2.second in
    let n3 = neither _ _ m.second in
    let n4 = neither _ _ n3.second in
    let n5 = neither _ _ n4.second in
    let g1 = gate_in _ _ _ (omega arith) n1.first in
    let well = table_well _ n2.first in
    let g2 = gate_in _ _ _ (omega arith) m.first in
    let g3 = gate_in _ _ _ (omega arith) n3.first in
    let g4 = gate_in _ _ _ (omega arith) g3.1 in
    let g6 = gate_in _ _ _ (omega arith) n5.first in
    let g7 = gate_in _ _ _ (omega arith) g6.1 in
    let g8 = gate_in (fits c) _ _ (omega arith) n5.second in (
      eqb-true _ _ g1.0,
      eqb-true _ _ g2.0,
      record {
        formed = well;
        rows = rows_in _ _ (values ∙ sym (table_of e rows well).count) n4.first;
        names = g6.0;
        town = g7.0;
        least = leb-true _ _ (and_left (leb 70 (template_length (objects_of c))) (leb (template_length (objects_of c)) 212) g8.0);
        most = leb-true _ _ (and_right (leb 70 (template_length (objects_of c))) (leb (template_length (objects_of c)) 212) g8.0);
        first = g3.0;
        last = g4.0;
        free = free;
      },
    )

pub written_allowed : (e : Edition) (number : ℕ) (c : Content) → (write_refusal e number c 256).number ≡ 0 → length c.free ≡ 12 → length c.values ≡ 16 → length e.rows ≡ 17 → Allowed e c
written_allowed e number c z free values rows = (written_in e number c 256 z free values rows).2

pub allowed_written : (e : Edition) (c : Content) → Allowed e c → write_refusal e e.number c 256 ≡ none
unfolding write_refusal number_refusal content_refusal gate or_else bad_row ends_refusal sums_refusal template_refusal
allowed_written e c m =
    rw (m.formed, eq-eqb e.number e.number refl, m.first, m.last, rows_out m.rows, m.names, m.town, le-leb 70 _ m.least, le-leb _ 212 m.most)

-- ---- the round trips, of contents
-- what was read is written as it stood
pub write_after_read : (e : Edition) (s : List ℕ) (c : Content) → length e.rows ≡ 17 → answer e s ≡ accepted c → (write_refusal e e.number c 256 ≡ none) × (layout c ≡ s)
write_after_read e s c n a =
    let m : Allowed e c × (layout c ≡ s) = read_sound e s c n a in
    (allowed_written e c m.0, m.1)

-- what was written is read
pub read_after_write : (e : Edition) (number : ℕ) (c : Content) → length e.rows ≡ 17 → length c.free ≡ 12 → length c.values ≡ 16
    → (write_refusal e number c 256).number ≡ 0 → answer e (layout c) ≡ accepted c
read_after_write e number c n free values z = read_complete e (layout c) c n (written_allowed e number c z free values n) refl

-- ---- the round trips, of records and buffers
pub buffer_after_read : (e : Edition) (s buffer : List ℕ) (c : Content) → length e.rows ≡ 17 → length buffer ≡ 256 → answer e s ≡ accepted c
    → buffer_after e (record_of e.number c) buffer ≡ s
unfolding buffer_after
buffer_after_read e s buffer c n size a =
    let w : (write_refusal e e.number c 256 ≡ none) × (layout c ≡ s) = write_after_read e s c n a in
    rw (content_back, number_back, size, w.0) w.1

pub read_buffer_after : (e : Edition) (r : Record) (buffer : List ℕ) → length e.rows ≡ 17 → length r.free ≡ 12 → length r.objects ≡ 16
    → (record_refusal e r buffer).number ≡ 0 → answer e (buffer_after e r buffer) ≡ accepted (content_of r)
unfolding buffer_after content_of
read_buffer_after e r buffer n free objects z =
    let w = written_in e r.number (content_of r) (length buffer) z free (length-map r.objects value_of ∙ objects) n in
    rw (z) (read_complete e (layout (content_of r)) (content_of r) n w.2 refl)
