-- What a record has that no check refuses, and what the buffer then holds. Assumes nothing.
use mathlib.Core.Path.{◌≡◌, refl, sym, ap, ◌∙◌}
use mathlib.Core.Bool.{Bool, true, false, cond, ◌&&◌}
use mathlib.Core.List.{List, [], ◌∷◌, map}
use Prim.Native.Nat.{ℕ, zero, suc, ◌≤◌, ◌<◌, ◌^◌}
use native.Mathlib.Nat.{le_of_suc-le-suc}
use native.Mathlib.Omega.{arith}
use borrow.Author.Tests.{eqb-true, eqb-false, leb-true}
use lib.Dec.{eqb, leb}
use lib.ListN.{length, get_or}
use Rattle.edition.specs.declared.Row.{Row}
use Rattle.edition.specs.declared.Edition.{Edition}
use Rattle.edition.specs.Sets.{permitted}
use Rattle.rules.specs.Values.{judged}
use Rattle.edition.specs.Rows.{tags, formed_of, no_row}
use Rattle.ground.proofs.Lists.{and_right}
use Rattle.edition.proofs.Rows.{formed_rows, formed_within, permits_most}
use Rattle.card.specs.declared.Object.{Object}
use Rattle.card.specs.declared.Record.{Record}
use Rattle.card.specs.declared.Refusal.{Refusal}
use Rattle.card.specs.Content.{Content, value_of, content_of}
use Rattle.card.specs.Layout.{template_length, object_tags, objects_of, layout}
use Rattle.card.specs.Refusals.{none, gate, refuse}
use Rattle.card.specs.Rules.{entries, length-out, of_verdict, fault}
use Rattle.card.specs.Refusing.{row_refusal, rows_refusal, template_refusal, write_refusal}
use Rattle.card.specs.Writing.{record_refusal, buffer_after}
use Rattle.card.specs.Rules.{entry_of}
use Rattle.card.specs.Content.{no_object}
use Rattle.writer.specs.Storing.{Storable, Lendable, lent_after}
use Rattle.object_sizes.proofs.Items.{claim_short}
use Rattle.card.proofs.Chains.{neither, table_well}
use Rattle.ground.specs.Pieces.{pieces}
use Rattle.wire_tables.specs.Tables.{edition_from, no_edition, lent_edition}
use Rattle.wire_records.specs.Records.{lent_record}
use Rattle.wire_records.proofs.Parts.{lent_count}
use Rattle.checks.specs.Lending.{lent_refusal}
use Rattle.checks.proofs.Order.{refused_size, content_order, in_order}

-- ---- where no row refuses, no object claims more than 28 bytes
row_short : (t : ℕ) (r : Row) (v : List ℕ) → r.lengths < 2 ^ 29 → (row_refusal (entry_of t r) (fault r v)).number ≡ 0 → length v ≤ 28
unfolding fault row_refusal
row_short t r [] h e = omega arith
row_short t r (b ∷ v) h e = go (permitted r.lengths (length (b ∷ v))) refl e
  where
    go : (q : Bool) → permitted r.lengths (length (b ∷ v)) ≡ q
        → (row_refusal (entry_of t r) (cond q (of_verdict (judged r.rule (b ∷ v))) length-out)).number ≡ 0 → length (b ∷ v) ≤ 28
    go true p z = permits_most r.lengths (length (b ∷ v)) h p
    go false p z = absurd (omega arith)

all_short : (ts : List ℕ) (rs : List Row) (os : List Object) → length os ≤ length ts → length os ≤ length rs
    → ((i : ℕ) → i < length rs → (get_or rs i no_row).lengths < 2 ^ 29) → (rows_refusal (entries ts rs) (map value_of os)).number ≡ 0
    → (i : ℕ) → (get_or os i no_object).length ≤ 28
unfolding entries rows_refusal
all_short ts rs [] ht hr below e i = omega arith
all_short [] rs (o ∷ os) ht hr below e i = absurd (omega arith)
all_short (t ∷ ts) [] (o ∷ os) ht hr below e i = absurd (omega arith)
all_short (t ∷ ts) (r ∷ rs) (o ∷ os) ht hr below e zero =
    claim_short o (row_short t r (value_of o) (below 0 (omega arith)) (neither _ (rows_refusal (entries ts rs) (map value_of os)) e).first)
all_short (t ∷ ts) (r ∷ rs) (o ∷ os) ht hr below e (suc i) =
    all_short ts rs os (le_of_suc-le-suc ht) (le_of_suc-le-suc hr) (λ j h. below (suc j) (omega arith)) (neither (row_refusal (entry_of t r) (fault r (value_of o))) _ e).second i

-- ---- a record that is not refused
pub record Accepted (r : Record) (n : ℕ) : Type 0 where
  pub sized : n ≡ 256
  pub storable : Storable r

template_allowed : (c : Content) → (template_refusal c).number ≡ 0 → template_length (objects_of c) ≤ 212
unfolding template_refusal gate
template_allowed c e = go (leb 70 (template_length (objects_of c)) && leb (template_length (objects_of c)) 212) refl e
  where
    go : (q : Bool) → (leb 70 (template_length (objects_of c)) && leb (template_length (objects_of c)) 212) ≡ q → (gate q (refuse 4 0 0) none).number ≡ 0
        → template_length (objects_of c) ≤ 212
    go true p z = leb-true _ _ (and_right (leb 70 (template_length (objects_of c))) (leb (template_length (objects_of c)) 212) p)
    go false p z = absurd (omega arith)

size_allowed : (e : Edition) (number : ℕ) (c : Content) (n : ℕ) → (write_refusal e number c n).number ≡ 0 → n ≡ 256
size_allowed e number c n z = go (eqb n 256) refl
  where
    go : (q : Bool) → eqb n 256 ≡ q → n ≡ 256
    go true p = eqb-true n 256 p
    go false p = absurd (let k = ap (λ (r : Refusal). r.number) (refused_size e number c n (eqb-false n 256 p)) in omega arith)

pub accepted : (e : Edition) (r : Record) (n : ℕ) → length e.rows ≡ 17 → length r.objects ≡ 16 → (write_refusal e r.number (content_of r) n).number ≡ 0 → Accepted r n
unfolding content_of tags
accepted e r n hr ho z =
    let s = size_allowed e r.number (content_of r) n z in
    let a = neither _ _ (rw (in_order e r.number (content_of r) n s refl) at z) in
    let m = neither _ _ a.second in
    let b = neither _ _ (rw (content_order e (content_of r) refl refl refl) at m.second) in
    let c = neither _ _ b.second in
    let d = neither _ _ c.second in
    let formed = table_well (formed_of e) a.first in
    record {
      sized = s;
      storable = record {
        short = all_short object_tags e.rows r.objects (omega arith) (omega arith) (λ i h. (formed_within e.rows i (formed_rows e formed) h).small) c.first;
        most = template_allowed (content_of r) d.second;
      };
    }

-- ---- a record beside its refusal, and the bytes that it is lent as: it has its room where nothing is refused, and what the buffer then holds
module _ (e : Edition) (r : Record) (bytes b : List ℕ) (x : Refusal) (is : x ≡ record_refusal e r b) (lent : lent_record bytes ≡ r) where
  pub has_room : length bytes ≡ 479 → length e.rows ≡ 17 → x.number ≡ 0 → Lendable bytes × (length b ≡ 256)
  has_room n hr z =
      let ho = rw lent at (lent_count bytes n) in
      let k = accepted e r (length b) hr ho (ap (λ (y : Refusal). y.number) (sym is) ∙ z) in
      (record { sized = n; storable = rw lent k.storable }, k.sized)

  pub left : {after : List ℕ} → after ≡ cond (eqb x.number 0) (layout (content_of (lent_record bytes))) b → after ≡ buffer_after e r b
  unfolding buffer_after
  left h = rw (is, lent) at h

-- the same of lent bytes
module _ (e : Edition) (bytes b : List ℕ) (x : Refusal) (is : x ≡ lent_refusal e bytes (length b)) where
  pub lent_room : length e.rows ≡ 17 → x.number ≡ 0 → Lendable bytes × (length b ≡ 256)
  unfolding lent_refusal gate
  lent_room hr z = go (eqb (length bytes) 479) refl is
    where
      go : (q : Bool) → eqb (length bytes) 479 ≡ q → x ≡ gate q (refuse 20 0 0) (write_refusal e (lent_record bytes).number (content_of (lent_record bytes)) (length b))
          → Lendable bytes × (length b ≡ 256)
      go true p f = has_room e (lent_record bytes) bytes b x f refl (eqb-true (length bytes) 479 p) hr z
      go false p f = absurd (let k = ap (λ (y : Refusal). y.number) f in omega arith)

  pub lent_left : {after : List ℕ} → after ≡ cond (eqb x.number 0) (layout (content_of (lent_record bytes))) b → after ≡ lent_after e bytes b
  unfolding lent_after
  lent_left h = rw is at h

-- whatever is lent as a table, its edition has seventeen rows
pub lent_rows : (bs : List ℕ) → length (lent_edition bs).rows ≡ 17
unfolding lent_edition edition_from pieces
lent_rows bs = go (eqb (length bs) 103)
  where
    go : (q : Bool) → length (cond q (edition_from bs) no_edition).rows ≡ 17
    go true = refl
    go false = refl
