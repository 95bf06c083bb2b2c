-- Where any card shows the no that is told, the one chosen does: the inner writes it. The lengths of such a card will do for the narrowed rows; so the card with no long row has
-- at most as many bytes and the one with all rows long at least as many, and from one card to the next there are at most 32 bytes more. Assumes nothing.
use Prim.Native.Nat.{ℕ, zero, suc, ◌+◌, ◌<◌, ◌≤◌}
use native.Mathlib.Nat.{zero-lt-suc}
use native.Mathlib.Omega.{arith}
use mathlib.Core.Path.{◌≡◌, refl, sym, ap, ◌∙◌, subst}
use mathlib.Core.Logic.{◌↔◌}
use mathlib.Core.Bool.{Bool, true, false, cond}
use mathlib.Core.List.{List, [], ◌∷◌}
use lib.Dec.{eqb, leb, ltb}
use lib.ListN.{length, get_or}
use borrow.Author.Tests.{eqb-true, eqb-false, le-leb, leb-true, leb-false}
use Rattle.edition.specs.declared.Row.{Row}
use Rattle.edition.specs.declared.Edition.{Edition}
use Rattle.edition.specs.Rows.{tags, no_row, row_formed}
use Rattle.nesting.specs.declared.Nesting.{Nesting}
use Rattle.nesting.specs.Decision.{nesting_of}
use Rattle.nesting.proofs.Decided.{nesting_said}
use Rattle.card.specs.Content.{Content}
use Rattle.card.specs.Refusals.{none}
use Rattle.card.specs.Layout.{object_tags, objects_of, template_length}
use Rattle.card.specs.Rules.{entries, RowMet, AllMet, none_left, one_more, Allowed, first_allowed, last_allowed}
use Rattle.card.specs.Writing.{record_refusal}
use Rattle.demands.specs.Demands.{LentEdition}
use Rattle.demands.proofs.Library.{library}
use Rattle.choosing.specs.Choices.{will_do}
use Rattle.example.specs.Cards.{rows_for, start_of, grouped, length_at, part_of, value_for, values_of, card_of, enough, first_from, chosen_card, example_of}
use Rattle.example.specs.Shows.{Shown, Exists}
use Rattle.example.proofs.Grouped.{kind}
use Rattle.example.proofs.Runs.{most_28, met_will, will_met}
use Rattle.example.proofs.Shown.{told_both, told_will}
use Rattle.example.proofs.Totals.{total, unit_size, template_size}
use Rattle.example.proofs.Wills.{Will, chosen_will, chosen_names, chosen_town, size_fewest, size_most, size_more}
use Rattle.example.proofs.Told.{Told, told_at, met_at, row_told, row_other, part_told, part_other, value_at_lem, values_length, length_at_lem, names_by, town_by, formed_at}
use Rattle.example.proofs.Chosen.{chosen_enough}
use Rattle.example.proofs.Refused.{example_content, example_number, example_lent, example_shown}

-- ---- all rows are met where each is
all_by : (ts : List ℕ) (rs : List Row) (vs : List (List ℕ)) → length vs ≡ length ts → length ts ≤ length rs → ((k : ℕ) → k < length vs → RowMet (get_or rs k no_row) (get_or vs k []))
    → AllMet (entries ts rs) vs
unfolding entries
all_by [] rs [] e l h = none_left
all_by [] rs (v ∷ vs) e l h = absurd (omega arith)
all_by (t ∷ ts) [] vs e l h = absurd (omega arith)
all_by (t ∷ ts) (r ∷ rs) [] e l h = absurd (omega arith)
all_by (t ∷ ts) (r ∷ rs) (v ∷ vs) e l h = one_more (h 0 (zero-lt-suc (length vs))) (all_by ts rs vs (omega arith) (omega arith) (λ k b. h (suc k) (omega (arith, b))))

all_length : (ts : List ℕ) (rs : List Row) (vs : List (List ℕ)) → length ts ≤ length rs → AllMet (entries ts rs) vs → length vs ≡ length ts
unfolding entries
all_length [] rs [] l a = refl
all_length (t ∷ ts) [] vs l a = absurd (omega arith)
all_length (t ∷ ts) (r ∷ rs) (v ∷ vs) l (one_more m a) = ap suc (all_length ts rs vs (omega arith) a)
all_length [] rs (v ∷ vs) l a = elim a [ ]
all_length (t ∷ ts) (r ∷ rs) [] l a = elim a [ ]

objects_16 : length object_tags ≡ 16
unfolding tags
objects_16 = refl

-- ---- the first of the cards that is big enough
first_most : (s : ℕ → ℕ) (m k : ℕ) → ((j : ℕ) → j < k + m → s (suc j) ≤ s j + 32) → s k ≤ 212 → s (first_from (λ (j : ℕ). leb 70 (s j)) m k) ≤ 212
unfolding first_from
first_most s zero k h l = l
first_most s (suc m) k h l = go (leb 70 (s k)) refl (first_most s m (suc k) (λ j b. h j (omega (arith, b))))
  where
    go : (q : Bool) → leb 70 (s k) ≡ q → (s (suc k) ≤ 212 → s (first_from (λ (j : ℕ). leb 70 (s j)) m (suc k)) ≤ 212)
        → s (cond q k (first_from (λ (j : ℕ). leb 70 (s j)) m (suc k))) ≤ 212
    go true e ih = l
    go false e ih = ih (omega (arith, leb-false 70 (s k) e, h k (omega arith)))

met_small : (r : Row) (v : List ℕ) → row_formed false r ≡ true → RowMet r v → length v ≤ 28
met_small r [] f m = omega arith
met_small r (b ∷ v) f m = most_28 r (length (b ∷ v)) f m.0

-- ---- a card that shows the no: its lengths will do
module _ (i o : Edition) (n : Nesting) (li : LentEdition i) (lo : LentEdition o) (h : n.row < 16) (t : Told i o n) where
  abbrev rows : List Row
  rows = rows_for i.rows o.rows n

  abbrev row_of : ℕ → Row
  row_of k = get_or i.rows k no_row

  abbrev other_of : ℕ → Row
  other_of k = get_or o.rows k no_row

  formed : (k : ℕ) → k < 16 → row_formed false (row_of k) ≡ true
  formed k b = formed_at i k li t.inner b

  module _ (c : Content) (s : Shown i o n c) where
    abbrev length_of : ℕ → ℕ
    length_of k = length (get_or c.values k [])

    sixteen : length c.values ≡ 16
    sixteen = all_length object_tags i.rows c.values (omega (arith, objects_16, li)) s.allowed.rows ∙ objects_16

    met : (k : ℕ) → k < 16 → RowMet (row_of k) (get_or c.values k [])
    met k b = met_at object_tags i.rows c.values k s.allowed.rows (omega (arith, sixteen))

    each : (k : ℕ) → k < 16 → will_do (get_or rows k no_row) (length_of k) ≡ true
    each k b = go (eqb k n.row) refl
      where
        go : (q : Bool) → eqb k n.row ≡ q → will_do (get_or rows k no_row) (length_of k) ≡ true
        go false e =
            subst (λ (r : Row). will_do r (length_of k) ≡ true) (sym (row_other i.rows o.rows n k (eqb-false k n.row e)))
            (met_will (row_of k) (get_or c.values k []) (met k b))
        go true e =
            subst (λ (j : ℕ). will_do (get_or rows j no_row) (length_of j) ≡ true) (sym (eqb-true k n.row e))
            (subst (λ (r : Row). will_do r (length_of n.row) ≡ true) (sym (row_told i.rows o.rows n (omega (arith, h, li))))
            (told_will (row_of n.row) (other_of n.row) n.clause (get_or c.values n.row []) (formed n.row h) (met n.row h) s.clause))

    will : Will rows length_of
    will = record {
      each = each;
      small = λ k b. met_small (row_of k) (get_or c.values k []) (formed k b) (met k b);
      names = sym (names_by c.values length_of (λ k b. refl)) ∙ s.allowed.names;
      town = sym (town_by c.values length_of (λ k b. refl)) ∙ s.allowed.town;
    }

    -- ---- the cards that are tried
    told-met : (long : ℕ) → RowMet (row_of n.row) (value_for (part_of n n.row) (row_of n.row) (other_of n.row) (length_at rows long n.row))
    unfolding length_at
    told-met long =
        let w = chosen_will rows length_of will (ltb (start_of n.row) long) n.row (kind n.row) h in
        subst (λ (p : ℕ). RowMet (row_of n.row) (value_for p (row_of n.row) (other_of n.row) (length_at rows long n.row))) (sym (part_told n))
        (told_both (row_of n.row) (other_of n.row) n.clause (length_at rows long n.row) (formed n.row h) (formed_at o n.row lo t.outer h) t.at.fails
        (subst (λ (r : Row). will_do r (length_at rows long n.row) ≡ true) (row_told i.rows o.rows n (omega (arith, h, li))) w)).0

    value-met : (long k : ℕ) → k < 16 → RowMet (row_of k) (get_or (values_of i.rows o.rows n long) k [])
    unfolding length_at
    value-met long k b = subst (RowMet (row_of k)) (sym (value_at_lem i.rows o.rows n long k b)) (go (eqb k n.row) refl (chosen_will rows length_of will (ltb (start_of k) long) k (kind k) b))
      where
        go : (q : Bool) → eqb k n.row ≡ q → will_do (get_or rows k no_row) (length_at rows long k) ≡ true → RowMet (row_of k) (value_for (part_of n k) (row_of k) (other_of k) (length_at rows long k))
        go false e w =
            let d = eqb-false k n.row e in
            subst (λ (p : ℕ). RowMet (row_of k) (value_for p (row_of k) (other_of k) (length_at rows long k))) (sym (part_other n k d))
            (will_met 4 (row_of k) (other_of k) (length_at rows long k) refl (formed k b) (subst (λ (r : Row). will_do r (length_at rows long k) ≡ true) (row_other i.rows o.rows n k d) w))
        go true e w = subst (λ (j : ℕ). RowMet (row_of j) (value_for (part_of n j) (row_of j) (other_of j) (length_at rows long j))) (sym (eqb-true k n.row e)) (told-met long)

    card_size : (long : ℕ) → template_length (objects_of (card_of i o n long)) ≡ total 16 (unit_size (length_at rows long)) + 3
    unfolding card_of
    card_size long = template_size (card_of i o n long) (length_at rows long) (values_length i.rows o.rows n long) (length_at_lem i.rows o.rows n long)

    own-size : template_length (objects_of c) ≡ total 16 (unit_size length_of) + 3
    own-size = template_size c length_of sixteen (λ k b. refl)

    card-allowed : (long : ℕ) → 70 ≤ template_length (objects_of (card_of i o n long)) → template_length (objects_of (card_of i o n long)) ≤ 212 → Allowed i (card_of i o n long)
    unfolding card_of first_allowed last_allowed length_at start_of grouped
    card-allowed long least most = record {
      formed = t.inner;
      rows = all_by object_tags i.rows (values_of i.rows o.rows n long) (values_length i.rows o.rows n long ∙ sym objects_16) (omega (arith, objects_16, li))
          (λ k b. value-met long k (omega (arith, b, values_length i.rows o.rows n long)));
      names = names_by (values_of i.rows o.rows n long) (length_at rows long) (length_at_lem i.rows o.rows n long) ∙ chosen_names rows length_of will (ltb 6 long);
      town = town_by (values_of i.rows o.rows n long) (length_at rows long) (length_at_lem i.rows o.rows n long) ∙ chosen_town rows length_of will (ltb 12 long);
      least = least;
      most = most;
      first = refl;
      last = refl;
      free = refl;
    }

    -- ---- the one chosen
    abbrev chosenLong : ℕ
    chosenLong = first_from (enough i o n) 16 0

    chosen-least : 70 ≤ template_length (objects_of (card_of i o n chosenLong))
    unfolding enough
    chosen-least =
        leb-true 70 (template_length (objects_of (card_of i o n chosenLong)))
        (chosen_enough i o n 16 (omega arith) (le-leb 70 (template_length (objects_of (card_of i o n 16))) (omega (arith, card_size 16, size_most rows length_of will, own-size, s.allowed.least))))

    chosen_most : template_length (objects_of (card_of i o n chosenLong)) ≤ 212
    unfolding enough
    chosen_most =
        first_most (λ (k : ℕ). template_length (objects_of (card_of i o n k))) 16 0
        (λ j b. omega (arith, card_size j, card_size (suc j), size_more rows length_of will j (omega (arith, b))))
        (omega (arith, card_size 0, size_fewest rows length_of will, own-size, s.allowed.most))

    pub chosen_allowed : Allowed i (chosen_card i o n)
    unfolding chosen_card
    chosen_allowed = card-allowed chosenLong chosen-least chosen_most

-- the inner writes the record into a buffer of 256 bytes exactly where there is a card that shows the no that is told
pub example_written : (i o : Edition) (b : List ℕ) → LentEdition i → LentEdition o → (nesting_of i o).row < 16 → length b ≡ 256
    → (record_refusal i (example_of i o) b ≡ none) ↔ Exists i o
example_written i o b li lo h l = (there, back)
  where
    there : record_refusal i (example_of i o) b ≡ none → Exists i o
    there w = record { content = chosen_card i o (nesting_of i o); shown = example_shown i o b li lo h w }

    back : Exists i o → record_refusal i (example_of i o) b ≡ none
    back e =
        let t : Told i o (nesting_of i o) = told_at i o (nesting_of i o) h (nesting_said i o (li ∙ sym lo)) in
        let a : Allowed i (chosen_card i o (nesting_of i o)) = chosen_allowed i o (nesting_of i o) li lo h t e.content e.shown in
        (library.second.writes i (example_of i o) b li (example_lent i o h)).1 (subst (Allowed i) (sym (example_content i o h)) a, example_number i o h, l)
