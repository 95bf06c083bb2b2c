-- Whenever the inner edition writes the card, its object at the row told shows the clause told: the inner accepts the image, and the outer refuses it. Where the row told
-- stands in a sum that the lengths chosen keep, they are lengths of the narrowed row, since else they would be 28, 28 and 28. Assumes nothing.
use Prim.Native.Nat.{ℕ, ◌<◌, ◌≤◌}
use native.Mathlib.Omega.{arith}
use mathlib.Core.Path.{◌≡◌, refl, sym, ap, ◌∙◌, subst}
use mathlib.Core.Bool.{Bool, true, false}
use mathlib.Core.List.{List, [], ◌∷◌, map}
use lib.Dec.{ltb}
use lib.ListN.{length, get_or, length-map}
use borrow.Author.Tests.{lt-leb}
use Rattle.ground.specs.Lists.{among}
use Rattle.edition.specs.declared.Row.{Row}
use Rattle.edition.specs.declared.Edition.{Edition}
use Rattle.edition.specs.Rows.{no_row}
use Rattle.nesting.specs.declared.Nesting.{Nesting}
use Rattle.nesting.specs.Decision.{nesting_of}
use Rattle.nesting.proofs.Decided.{nesting_said}
use Rattle.card.specs.declared.Record.{Record}
use Rattle.card.specs.declared.Reading.{Reading}
use Rattle.card.specs.Content.{Content, content_of, record_of, object_of}
use Rattle.card.specs.Refusals.{none}
use Rattle.card.specs.Layout.{object_tags}
use Rattle.card.specs.Rules.{object_rows, AllMet, Allowed, Meets, names_fit, town_fits}
use Rattle.card.specs.Reading.{reading}
use Rattle.card.specs.Writing.{record_refusal}
use Rattle.card.proofs.Records.{content_back}
use Rattle.demands.specs.Demands.{LentEdition, LentRecord, InnerReads, same, first}
use Rattle.demands.proofs.Library.{library}
use Rattle.demands.proofs.NestedLaws.{outer_allows}
use Rattle.choosing.specs.declared.Three.{Three}
use Rattle.choosing.specs.Choices.{will_do, three, sum_holds, chosen}
use Rattle.choosing.proofs.Fitting.{chosen_fits, sum_chosen}
use Rattle.example.specs.Cards.{narrow, rows_for, grouped, start_of, plain_row, three_at, place_of, by_place, length_at, value_for, values_of, card_of, enough, first_from, chosen_card, example_of}
use Rattle.example.specs.Shows.{image, Shows, ShowsClause, Shown}
use Rattle.example.proofs.Grouped.{Kind, alone, title, given, prefix, country, postal, town, kind}
use Rattle.example.proofs.Shown.{told_both, told_some, not_met, asks}
use Rattle.example.proofs.Wills.{Parts, parts, alone_fits, alone_small, alone_length, names_of, town_of, names_lengths, town_lengths}
use Rattle.example.proofs.Told.{Told, told_at, met_at, row_told, part_told, value_at_lem, values_length, length_at_lem, names_by, town_by, formed_at}
use Rattle.example.proofs.Widest.{widest, widest_rows, in_widest}

-- ---- the length at the row told is one of the narrowed row
alone_told : (rows : List Row) (long k m : ℕ) → grouped k ≡ false → m ≤ 28 → will_do (get_or rows k no_row) m ≡ true → will_do (get_or rows k no_row) (length_at rows long k) ≡ true
unfolding length_at
alone_told rows long k m e small h =
    let q : Bool = ltb (start_of k) long in
    let r : Row = get_or rows k no_row in
    let p = parts false plain_row plain_row r (chosen q false plain_row plain_row r)
    (chosen_fits q false plain_row plain_row r (three 0 0 m) (alone_small m small) (alone_fits r m h)) in
    subst (λ (x : ℕ). will_do r x ≡ true) (sym (alone_length q rows k e)) p.third

names_told : (rows : List Row) (long : ℕ) → sum_holds true (three (length_at rows long 6) (length_at rows long 7) (length_at rows long 8)) ≡ true
    → Parts true (get_or rows 6 no_row) (get_or rows 7 no_row) (get_or rows 8 no_row) (names_of (ltb 6 long) rows)
unfolding length_at start_of grouped
names_told rows long h =
    parts true _ _ _ _ (sum_chosen (ltb 6 long) true (get_or rows 6 no_row) (get_or rows 7 no_row) (get_or rows 8 no_row)
    (subst (λ (t : Three). sum_holds true t ≡ true) (names_lengths (ltb 6 long) rows) h))

town_told : (rows : List Row) (long : ℕ) → sum_holds false (three (length_at rows long 12) (length_at rows long 13) (length_at rows long 14)) ≡ true
    → Parts false (get_or rows 12 no_row) (get_or rows 13 no_row) (get_or rows 14 no_row) (town_of (ltb 12 long) rows)
unfolding length_at start_of grouped
town_told rows long h =
    parts false _ _ _ _ (sum_chosen (ltb 12 long) false (get_or rows 12 no_row) (get_or rows 13 no_row) (get_or rows 14 no_row)
    (subst (λ (t : Three). sum_holds false t ≡ true) (town_lengths (ltb 12 long) rows) h))

will_kind : (rows : List Row) (long k : ℕ) → Kind k → (m : ℕ) × (m ≤ 28) × (will_do (get_or rows k no_row) m ≡ true)
    → sum_holds true (three (length_at rows long 6) (length_at rows long 7) (length_at rows long 8)) ≡ true
    → sum_holds false (three (length_at rows long 12) (length_at rows long 13) (length_at rows long 14)) ≡ true
    → will_do (get_or rows k no_row) (length_at rows long k) ≡ true
unfolding length_at start_of grouped by_place place_of three_at
will_kind rows long k (alone e) s a b = alone_told rows long k s.0 e s.1 s.2
will_kind rows long k title s a b = (names_told rows long a).first
will_kind rows long k given s a b = (names_told rows long a).second
will_kind rows long k prefix s a b = (names_told rows long a).third
will_kind rows long k country s a b = (town_told rows long b).first
will_kind rows long k postal s a b = (town_told rows long b).second
will_kind rows long k town s a b = (town_told rows long b).third

module _ (i o : Edition) (n : Nesting) (long : ℕ) (li : LentEdition i) (lo : LentEdition o) (h : n.row < 16) (t : Told i o n) where
  abbrev inner-row : Row
  inner-row = get_or i.rows n.row no_row

  abbrev outer-row : Row
  outer-row = get_or o.rows n.row no_row

  abbrev rows : List Row
  rows = rows_for i.rows o.rows n

  narrowed : get_or rows n.row no_row ≡ narrow n.clause inner-row outer-row
  narrowed = row_told i.rows o.rows n (omega (arith, h, li))

  will-told : names_fit (map length (values_of i.rows o.rows n long)) ≡ true → town_fits (map length (values_of i.rows o.rows n long)) ≡ true
      → will_do (narrow n.clause inner-row outer-row) (length_at rows long n.row) ≡ true
  will-told a b =
      let s = told_some inner-row outer-row n.clause (formed_at i n.row li t.inner h) t.at.fails in
      let at = length_at_lem i.rows o.rows n long in
      subst (λ (r : Row). will_do r (length_at rows long n.row) ≡ true) narrowed
      (will_kind rows long n.row (kind n.row) (s.0, s.1, subst (λ (r : Row). will_do r s.0 ≡ true) (sym narrowed) s.2)
      (sym (names_by (values_of i.rows o.rows n long) (length_at rows long) at) ∙ a)
      (sym (town_by (values_of i.rows o.rows n long) (length_at rows long) at) ∙ b))

  pub value_told : get_or (values_of i.rows o.rows n long) n.row [] ≡ value_for n.clause inner-row outer-row (length_at rows long n.row)
  value_told =
      value_at_lem i.rows o.rows n long n.row h
      ∙ ap (λ (p : ℕ). value_for p inner-row outer-row (length_at rows long n.row)) (part_told n)

  pub clause_told : names_fit (map length (values_of i.rows o.rows n long)) ≡ true → town_fits (map length (values_of i.rows o.rows n long)) ≡ true
      → ShowsClause outer-row n.clause (get_or (values_of i.rows o.rows n long) n.row [])
  clause_told a b =
      subst (ShowsClause outer-row n.clause) (sym value_told)
      (told_both inner-row outer-row n.clause (length_at rows long n.row) (formed_at i n.row li t.inner h) (formed_at o n.row lo t.outer h) t.at.fails (will-told a b)).1

-- a content that shows the clause told does not meet the outer's rows
outer_unmet : (i o : Edition) (n : Nesting) (c : Content) → n.row < 16 → length c.values ≡ 16 → Told i o n
    → ShowsClause (get_or o.rows n.row no_row) n.clause (get_or c.values n.row []) → AllMet (object_rows o) c.values → ⊥
outer_unmet i o n c h l t s a =
    not_met (get_or o.rows n.row no_row) n.clause (get_or c.values n.row []) (asks (get_or i.rows n.row no_row) (get_or o.rows n.row no_row) n.clause t.at.fails) s
    (met_at object_tags o.rows c.values n.row a (omega (arith, h, l)))

-- ---- the card: so many rows are long, and its record
pub record Made (i o : Edition) (n : Nesting) (c : Content) : Type 0 where
  pub long : ℕ
  pub is : c ≡ card_of i o n long

pub chosen_made : (i o : Edition) (n : Nesting) → Made i o n (chosen_card i o n)
unfolding chosen_card
chosen_made i o n = record { long = first_from (enough i o n) 16 0; is = refl }

pub made_values : (i o : Edition) (n : Nesting) (c : Content) (m : Made i o n c) → c.values ≡ values_of i.rows o.rows n m.long
unfolding card_of
made_values i o n c m = ap (λ (x : Content). x.values) m.is

made_free : (i o : Edition) (n : Nesting) (c : Content) → Made i o n c → length c.free ≡ 12
unfolding card_of
made_free i o n c m = ap (λ (x : Content). length x.free) m.is

pub record_of_lem : (i o : Edition) → (nesting_of i o).row < 16 → example_of i o ≡ record_of i.number (chosen_card i o (nesting_of i o))
unfolding example_of
record_of_lem i o h = rw (lt-leb 16 (nesting_of i o).row h)

pub example_content : (i o : Edition) → (nesting_of i o).row < 16 → content_of (example_of i o) ≡ chosen_card i o (nesting_of i o)
example_content i o h = ap content_of (record_of_lem i o h) ∙ content_back i.number (chosen_card i o (nesting_of i o))

pub example_number : (i o : Edition) → (nesting_of i o).row < 16 → (example_of i o).number ≡ i.number
unfolding record_of
example_number i o h = ap (λ (r : Record). r.number) (record_of_lem i o h)

lent_made : (i o : Edition) (n : Nesting) (c : Content) → Made i o n c → LentRecord (record_of i.number c)
unfolding record_of
lent_made i o n c m = record {
  free = made_free i o n c m;
  objects = length-map c.values object_of ∙ ap length (made_values i o n c m) ∙ values_length i.rows o.rows n m.long;
}

pub example_lent : (i o : Edition) → (nesting_of i o).row < 16 → LentRecord (example_of i o)
example_lent i o h = subst LentRecord (sym (record_of_lem i o h)) (lent_made i o (nesting_of i o) (chosen_card i o (nesting_of i o)) (chosen_made i o (nesting_of i o)))

pub values_16 : (i o : Edition) (n : Nesting) (c : Content) → Made i o n c → length c.values ≡ 16
values_16 i o n c m = ap length (made_values i o n c m) ∙ values_length i.rows o.rows n m.long

read_refused : (o : Edition) (c : Content) (r : Reading) → InnerReads o c r → (AllMet (object_rows o) c.values → ⊥) → among r.refusal.number (6 ∷ 7 ∷ 9 ∷ 10 ∷ []) ≡ true
read_refused o c r (same a) h = absurd (h a)
read_refused o c r (first x u n) h = n

-- ---- whenever the inner writes it
module _ (i o : Edition) (b : List ℕ) (li : LentEdition i) (lo : LentEdition o) (h : (nesting_of i o).row < 16) (w : record_refusal i (example_of i o) b ≡ none) where
  told : Told i o (nesting_of i o)
  told = told_at i o (nesting_of i o) h (nesting_said i o (li ∙ sym lo))

  made : Made i o (nesting_of i o) (chosen_card i o (nesting_of i o))
  made = chosen_made i o (nesting_of i o)

  abbrev card : Content
  card = chosen_card i o (nesting_of i o)

  allowed : Allowed i card
  allowed = subst (Allowed i) (example_content i o h) ((library.second.writes i (example_of i o) b li (example_lent i o h)).0 w).0

  -- its object at the row told shows the clause told
  pub example_shown : Shown i o (nesting_of i o) card
  example_shown =
      let values = made_values i o (nesting_of i o) card made in
      record {
        allowed = allowed;
        clause = subst (λ (vs : List (List ℕ)). ShowsClause (get_or o.rows (nesting_of i o).row no_row) (nesting_of i o).clause (get_or vs (nesting_of i o).row [])) (sym values)
            (clause_told i o (nesting_of i o) made.long li lo h told
            (subst (λ (vs : List (List ℕ)). names_fit (map length vs) ≡ true) values allowed.names)
            (subst (λ (vs : List (List ℕ)). town_fits (map length vs) ≡ true) values allowed.town));
      }

  forth : ((reading i (image i o b)).refusal ≡ none) × (content_of (reading i (image i o b)).content ≡ content_of (example_of i o)) × ((reading i (image i o b)).content.number ≡ (example_of i o).number)
  forth = library.second.forth i (example_of i o) b li (example_lent i o h) w

  met : Meets i (image i o b)
  met = (library.second.accepts i (image i o b) li).0 forth.0

  wide : Meets widest (image i o b)
  wide = record { content = met.content; allowed = outer_allows i widest met.content (in_widest i li told.inner) met.allowed; drawn = met.drawn }

  content : met.content ≡ card
  content =
      sym (content_back i.number met.content)
      ∙ sym (ap content_of (library.second.holds i (image i o b) li met))
      ∙ forth.1
      ∙ example_content i o h

  unmet : AllMet (object_rows o) met.content.values → ⊥
  unmet a =
      outer_unmet i o (nesting_of i o) card h (values_16 i o (nesting_of i o) card made) told example_shown.clause
      (subst (AllMet (object_rows o)) (ap (λ (c : Content). c.values) content) a)

  -- the inner accepts the image, and the outer refuses it
  pub example_shows : Shows i o (image i o b)
  unfolding met wide
  example_shows = record {
    inner = forth.0;
    outer = read_refused o met.content (reading o (image i o b)) ((library.third o widest lo widest_rows (in_widest o lo told.outer)).reads (image i o b) wide).1 unmet;
  }
