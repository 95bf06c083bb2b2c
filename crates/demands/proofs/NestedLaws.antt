-- Of what the outer of two nested editions accepts, the inner accepts what meets all its rows, and refuses the rest at the first row that is not met. Assumes nothing.
use Prim.Native.Nat.{ℕ, suc, ◌+◌}
use native.Mathlib.Omega.{arith}
use mathlib.Core.Path.{◌≡◌, refl, ap, ◌∙◌}
use mathlib.Core.Logic.{◌⊎◌, inl, inr}
use mathlib.Core.Bool.{Bool, true, false}
use mathlib.Core.List.{List, [], ◌∷◌, ◌++◌}
use lib.ListN.{length}
use Rattle.edition.specs.declared.Row.{Row}
use Rattle.edition.specs.declared.Edition.{Edition}
use Rattle.edition.specs.declared.Formed.TheVariants.{Well}
use Rattle.ground.specs.Lists.{among}
use Rattle.edition.specs.Rows.{tags, formed_of}
use Rattle.card.specs.declared.Refusal.{Refusal}
use Rattle.card.specs.Content.{Content}
use Rattle.card.specs.Layout.{object, object_tags, layout}
use Rattle.card.specs.Rules.{Entry, entries, object_rows, RowMet, AllMet, none_left, one_more, Fault, met, missing, length-out, byte-out, value_out, fault, Allowed}
use Rattle.card.specs.Walk.{Walked, stopped, fault_at, push, walk}
use Rattle.card.specs.Frame.{start_of, objects_in}
use Rattle.card.specs.Reading.{accepted, refused, answer}
use Rattle.card.proofs.Chains.{answer_by, stopped_first}
use Rattle.ground.proofs.Lists.{true_false}
use Rattle.nesting.specs.Nested.{Within, NestedRows, no_rows, one-row, Nested}
use Rattle.demands.specs.Unmet.{FirstUnmet, here, later}
use Rattle.card.proofs.Walks.{unless_met, appraise, fault_met, met_fault}
use Rattle.card.proofs.Seventeen.{with_eight, Table, table_of, walk_values}
use Rattle.card.proofs.LastRow.{met_length}
use Rattle.demands.proofs.ReadSound.{read_sound}
use Rattle.demands.proofs.ReadComplete.{Reached, reached, read_complete}

-- ---- the first row that is not met
pub unmet_not_all : {rs : List Entry} {at : ℕ} {vs : List (List ℕ)} {x : Refusal} → FirstUnmet rs at vs x → AllMet rs vs → ⊥
unmet_not_all (here n) (one_more m a) = n m
unmet_not_all (later h f) (one_more m a) = unmet_not_all f a

pub unmet_one : {rs : List Entry} {at : ℕ} {vs : List (List ℕ)} {x y : Refusal} → FirstUnmet rs at vs x → FirstUnmet rs at vs y → x ≡ y
unmet_one (here n) (here m) = refl
unmet_one (here n) (later m g) = absurd (n m)
unmet_one (later m f) (here n) = absurd (n m)
unmet_one (later m f) (later k g) = unmet_one f g

-- its refusal has the number 6, 7, 9 or 10
pub fault_numbered : {rs : List Entry} {at : ℕ} {vs : List (List ℕ)} {x : Refusal} → FirstUnmet rs at vs x → among x.number (6 ∷ 7 ∷ 9 ∷ 10 ∷ []) ≡ true
unfolding fault_at among
fault_numbered (here {r} {v} {rs} {vs} {at} n) = go (fault r.row v) refl
  where
    go : (f : Fault) → fault r.row v ≡ f → among (fault_at r at f).number (6 ∷ 7 ∷ 9 ∷ 10 ∷ []) ≡ true
    go met e = absurd (n (met_fault r.row v e))
    go missing e = refl
    go length-out e = refl
    go (byte-out i) e = refl
    go value_out e = refl
fault_numbered (later m f) = fault_numbered f

-- ---- either all rows are met, or the walk stops at the first that is not
row_settled : (r : Entry) (v : List ℕ) (at : ℕ) (f : Fault) (w : Walked) → fault r.row v ≡ f
    → (RowMet r.row v × (unless_met r at f w ≡ w)) ⊎ ((RowMet r.row v → ⊥) × (unless_met r at f w ≡ stopped (fault_at r at f)))
unfolding unless_met
row_settled r v at met w e = inl (met_fault r.row v e, refl)
row_settled r v at missing w e = inr (λ m. let z : ◌≡◌ {A = ℕ} 0 1 = cc (fault_met r.row v m) in omega arith, refl)
row_settled r v at length-out w e = inr (λ m. let z : ◌≡◌ {A = ℕ} 0 1 = cc (fault_met r.row v m) in omega arith, refl)
row_settled r v at (byte-out i) w e = inr (λ m. let z : ◌≡◌ {A = ℕ} 0 1 = cc (fault_met r.row v m) in omega arith, refl)
row_settled r v at value_out w e = inr (λ m. let z : ◌≡◌ {A = ℕ} 0 1 = cc (fault_met r.row v m) in omega arith, refl)

-- the rows more and the values us behind them are not come to
abbrev Settled : List Entry → ℕ → List (List ℕ) → Walked → Type 0
Settled rs at vs w = AllMet rs vs ⊎ ((x : Refusal) × FirstUnmet rs at vs x × (w ≡ stopped x))

settled : (rs more : List Entry) (vs us : List (List ℕ)) (at : ℕ) → length vs ≡ length rs → Settled rs at vs (appraise (rs ++ more) at (vs ++ us))
unfolding appraise push
settled [] more [] us at n = inl none_left
settled [] more (v ∷ vs) us at n = absurd (omega arith)
settled (r ∷ rs) more [] us at n = absurd (omega arith)
settled (r ∷ rs) more (v ∷ vs) us at n = go (row_settled r v at (fault r.row v) _ refl) (settled rs more vs us next (omega arith))
  where
    next : ℕ
    next = at + length (object r.tag v)

    w : Walked
    w = appraise (rs ++ more) next (vs ++ us)

    go : (RowMet r.row v × (unless_met r at (fault r.row v) (push v w) ≡ push v w))
        ⊎ ((RowMet r.row v → ⊥) × (unless_met r at (fault r.row v) (push v w) ≡ stopped (fault_at r at (fault r.row v))))
        → Settled rs next vs w → Settled (r ∷ rs) at (v ∷ vs) (unless_met r at (fault r.row v) (push v w))
    go (inr (n, e)) t = inr (fault_at r at (fault r.row v), here n, e)
    go (inl (m, e)) (inl a) = inl (one_more m a)
    go (inl (m, e)) (inr (x, f, q)) = inr (x, later m f, e ∙ ap (push v) q)

-- ---- one edition inside the other
within_met : (i o : Row) (v : List ℕ) → Within i o → RowMet i v → RowMet o v
within_met i o [] w m = go o.required refl
  where
    go : (q : Bool) → o.required ≡ q → q ≡ false
    go true e = cc (w.asks e)
    go false e = refl
within_met i o (b ∷ v) w m = (w.shorter (length (b ∷ v)) m.0, w.takes (b ∷ v) m.0 m.1)

rows_met : (ts : List ℕ) {is os : List Row} {vs : List (List ℕ)} → NestedRows is os → AllMet (entries ts is) vs → AllMet (entries ts os) vs
unfolding entries
rows_met [] n a = a
rows_met (t ∷ ts) no_rows a = a
rows_met (t ∷ ts) (one-row {i} {o} w n) (one_more {v = v} m a) = one_more (within_met i o v w m) (rows_met ts n a)

rows_count : {is os : List Row} → NestedRows is os → length is ≡ length os
rows_count no_rows = refl
rows_count (one-row w n) = ap suc (rows_count n)

-- an edition has as many rows as one that it is nested in
pub nested_count : (i o : Edition) → Nested i o → length i.rows ≡ length o.rows
nested_count i o n = rows_count n.rows

-- what one edition allows, another allows where all its rows are met
pub allowed_by : (a b : Edition) (c : Content) → formed_of b ≡ Well → AllMet (object_rows b) c.values → Allowed a c → Allowed b c
allowed_by a b c f r m = record {
  formed = f;
  rows = r;
  names = m.names;
  town = m.town;
  least = m.least;
  most = m.most;
  first = m.first;
  last = m.last;
  free = m.free;
}

-- what the inner allows, the outer allows
pub outer_allows : (i o : Edition) (c : Content) → Nested i o → Allowed i c → Allowed o c
outer_allows i o c n m = allowed_by i o c n.outer (rows_met object_tags n.rows m.rows) m

-- what the inner accepts, the outer accepts with the same content
pub outer_accepts : (i o : Edition) (s : List ℕ) (c : Content) → length o.rows ≡ 17 → Nested i o → answer i s ≡ accepted c → answer o s ≡ accepted c
outer_accepts i o s c size n e =
    let m : Allowed i c × (layout c ≡ s) = read_sound i s c (nested_count i o n ∙ size) e in
    read_complete o s c size (outer_allows i o c n m.0) m.1

-- what the outer accepts with content c, the inner accepts with c if all its rows are met, and else refuses at the first that is not
pub inner_reads : (i o : Edition) (s : List ℕ) (c : Content) → length o.rows ≡ 17 → Nested i o → answer o s ≡ accepted c
    → (AllMet (object_rows i) c.values × (answer i s ≡ accepted c))
    ⊎ ((x : Refusal) × FirstUnmet (object_rows i) (start_of s) c.values x × (answer i s ≡ refused x))
unfolding among
inner_reads i o s c size n e = with-reached (reached o s c (met_length m.0.rows ∙ (table_of o size n.outer).count) m.0 m.1)
  where
    m : Allowed o c × (layout c ≡ s)
    m = read_sound o s c size e

    t : Table i
    t = table_of i (nested_count i o n ∙ size) n.inner

    count : length c.values ≡ length (object_rows i)
    count = cc (met_length m.0.rows, (table_of o size n.outer).count, t.count)

    Goal : Type 0
    Goal = (AllMet (object_rows i) c.values × (answer i s ≡ accepted c)) ⊎ ((x : Refusal) × FirstUnmet (object_rows i) (start_of s) c.values x × (answer i s ≡ refused x))

    with-reached : Reached s c → Goal
    with-reached r = cases (settled (object_rows i) _ c.values ((r.k ∷ []) ∷ []) (start_of s) count)
      where
        walked : walk (entries tags i.rows) (start_of s) (objects_in s) ≡ appraise (with_eight (object_rows i)) (start_of s) (c.values ++ ((r.k ∷ []) ∷ []))
        walked = ap (walk (entries tags i.rows) (start_of s)) r.bytes ∙ walk_values i (start_of s) (c.values ++ ((r.k ∷ []) ∷ [])) t

        cases : Settled (object_rows i) (start_of s) c.values (appraise (with_eight (object_rows i)) (start_of s) (c.values ++ ((r.k ∷ []) ∷ []))) → Goal
        cases (inl a) = inl (a, read_complete i s c (nested_count i o n ∙ size) (allowed_by o i c n.inner a m.0) m.1)
        cases (inr (x, f, w)) = inr (x, f, answer_by i s (stopped x) (r.answers i n.inner) (walked ∙ w) ∙ stopped_first s x _ (λ z. true_false (rw z at (fault_numbered f)) refl))
