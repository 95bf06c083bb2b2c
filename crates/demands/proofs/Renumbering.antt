-- The number put on a record: the call's refusal is that of writing, whose own link for the numbers is passed where they are the same; and
-- two editions with the same rows are met by the same images. Assumes nothing.
use Prim.Native.Nat.{ℕ}
use mathlib.Core.Path.{◌≡◌, refl, sym, ap, subst, ◌∙◌}
use mathlib.Core.Bool.{Bool, true, false, cond}
use mathlib.Core.List.{List, [], ◌∷◌}
use lib.Dec.{eqb}
use lib.ListN.{length}
use borrow.Author.Tests.{eq-eqb, eqb-true}
use Rattle.ground.specs.Lists.{among}
use Rattle.edition.specs.declared.Row.{Row}
use Rattle.edition.specs.declared.Edition.{Edition}
use Rattle.edition.specs.declared.Formed.{Formed}
use Rattle.edition.specs.declared.Formed.TheVariants.{Well, Bad, Unnumbered}
use Rattle.edition.specs.Rows.{formed_of}
use Rattle.card.specs.declared.Record.{Record}
use Rattle.card.specs.declared.Refusal.{Refusal}
use Rattle.card.specs.Content.{Content, content_of, numbered}
use Rattle.card.specs.Refusals.{none, gate, or_else, bad_row}
use Rattle.card.specs.Rules.{Entry, entries, object_rows, AllMet, Fault, met, missing, length-out, byte-out, value_out, fault, Meets}
use Rattle.card.specs.Layout.{object_tags}
use Rattle.card.specs.Sums.{sums_refusal}
use Rattle.card.specs.Refusing.{row_refusal, rows_refusal, ends_refusal, template_refusal, number_refusal, content_refusal, edition_refusal, write_refusal}
use Rattle.card.specs.Writing.{renumbered}
use Rattle.card.proofs.Chains.{or_pass, or_keeps, gate_after}
use Rattle.demands.specs.Demands.{library_writer}
use Rattle.demands.specs.Renumbering.{Renumbers, library_renumberer}
use Rattle.demands.proofs.NestedLaws.{allowed_by}
use Rattle.demands.proofs.WritingSays.{edition_zero}

-- ---- writing, of a record with the edition's own number
own_number : (e : Edition) (c : Content) (n : ℕ) → n ≡ 256 → edition_refusal e c ≡ write_refusal e e.number c n
unfolding edition_refusal write_refusal number_refusal gate
own_number e c n size =
    sym (rw (eq-eqb n 256 size, eq-eqb e.number e.number refl) (or_pass none _ refl ∙ ap (or_else (bad_row (formed_of e))) (or_pass none (content_refusal e c) refl)))

-- ---- neither 20 nor 22
abbrev Other : Refusal → Type 0
Other x = among x.number (20 ∷ 22 ∷ []) ≡ false

bad_other : (f : Formed) → Other (bad_row f)
unfolding bad_row among
bad_other Well = refl
bad_other (Bad k) = refl
bad_other Unnumbered = refl

row_other : (r : Entry) (f : Fault) → Other (row_refusal r f)
unfolding row_refusal among
row_other r met = refl
row_other r missing = refl
row_other r length-out = refl
row_other r (byte-out i) = refl
row_other r value_out = refl

rows_other : (rs : List Entry) (vs : List (List ℕ)) → Other (rows_refusal rs vs)
unfolding rows_refusal among
rows_other [] vs = refl
rows_other (r ∷ rs) [] = or_keeps Other _ _ (row_other r (fault r.row [])) (rows_other rs [])
rows_other (r ∷ rs) (v ∷ vs) = or_keeps Other _ _ (row_other r (fault r.row v)) (rows_other rs vs)

link : (q : Bool) (x w : Refusal) → Other x → Other w → Other (gate q x w)
link q x w a b = gate_after Other q x w (λ e. a) (λ e. b)

edition_other : (e : Edition) (c : Content) → Other (edition_refusal e c)
unfolding edition_refusal content_refusal ends_refusal sums_refusal template_refusal among
edition_other e c =
    or_keeps Other _ _ (bad_other (formed_of e))
    (or_keeps Other _ _ (link _ _ _ refl (link _ _ _ refl refl))
    (or_keeps Other _ _ (rows_other (object_rows e) c.values)
    (or_keeps Other _ _ (link _ _ _ refl (link _ _ _ refl refl)) (link _ _ _ refl refl))))

pub renumbers : Renumbers library_writer library_renumberer
unfolding renumbered content_of
renumbers = record {
  tells = λ e r b size. own_number e (content_of r) (length b) size;
  never = λ e r. edition_other e (content_of r);
  puts = λ e r z. rw z refl;
  keeps = λ e r h. keeps e r (eqb (edition_refusal e (content_of r)).number 0) refl h;
}
  where
    keeps : (e : Edition) (r : Record) (q : Bool) → eqb (edition_refusal e (content_of r)).number 0 ≡ q → (edition_refusal e (content_of r) ≡ none → ⊥)
        → cond q (numbered e.number r) r ≡ r
    keeps e r true t h = absurd (h (edition_zero e (content_of r) (eqb-true _ _ t)))
    keeps e r false t h = refl

-- ---- an edition's number stands on no card: its rows alone decide which images meet its rules
pub same_rows : (e f : Edition) (s : List ℕ) → formed_of f ≡ Well → e.rows ≡ f.rows → Meets e s → Meets f s
same_rows e f s formed rows m = record {
  content = m.content;
  allowed = allowed_by e f m.content formed (subst (λ (rs : List Row). AllMet (entries object_tags rs) m.content.values) rows m.allowed.rows) m.allowed;
  drawn = m.drawn;
}
