-- The row told, and what stands at a row of the card. Assumes nothing.
use Prim.Native.Nat.{ℕ, zero, suc, ◌+◌, ◌<◌}
use native.Mathlib.Nat.{not-suc-le-zero, le_of_suc-le-suc}
use native.Mathlib.Omega.{arith}
use mathlib.Core.Path.{◌≡◌, refl, ap, ◌∙◌, subst}
use mathlib.Core.Bool.{Bool, true, false}
use mathlib.Core.List.{List, [], ◌∷◌, ◌++◌, map}
use lib.Dec.{eqb, ltb}
use lib.ListN.{length, get_or, length-append, get_or-append, get_or-map}
use lib.Seq.{get_or-append_seam, get_or-set_same, get_or-set_other}
use borrow.Author.Tests.{eq-eqb, ne_eqb, eqb-true, eqb-false}
use Rattle.edition.specs.declared.Row.{Row}
use Rattle.edition.specs.declared.Edition.{Edition}
use Rattle.edition.specs.declared.Formed.TheVariants.{Well}
use Rattle.edition.specs.Rows.{no_row, row_formed, formed_of}
use Rattle.edition.proofs.Rows.{formed_rows, formed_row}
use Rattle.nesting.specs.declared.Nesting.{Nesting}
use Rattle.nesting.specs.Answers.{Fails, Apart, here, later, Said, is-nested, inner-bad, outer-bad, apart}
use Rattle.card.specs.Rules.{entries, RowMet, AllMet, one_more, names_fit, town_fits}
use Rattle.choosing.specs.Choices.{three, sum_holds}
use Rattle.example.specs.Cards.{listed, narrow, rows_for, start_of, part_of, value_at, values_of, length_at}
use Rattle.example.proofs.Runs.{value_length}
use Rattle.example.proofs.Wills.{length_small}

-- ---- a list by its index
pub listed_length : {A : Type 0} (n : ℕ) (f : ℕ → A) → length (listed n f) ≡ n
unfolding listed
listed_length zero f = refl
listed_length (suc n) f = let h = listed_length n f in length-append (listed n f) (f n ∷ []) ∙ omega arith

pub listed_at : {A : Type 0} (n : ℕ) (f : ℕ → A) (k : ℕ) (d : A) → k < n → get_or (listed n f) k d ≡ f k
unfolding listed
listed_at zero f k d h = absurd (not-suc-le-zero h)
listed_at (suc n) f k d h = go (eqb k n) refl (listed_at n f k d)
  where
    l : length (listed n f) ≡ n
    l = listed_length n f

    go : (q : Bool) → eqb k n ≡ q → (k < n → get_or (listed n f) k d ≡ f k) → get_or (listed n f ++ (f n ∷ [])) k d ≡ f k
    go true e ih =
        let same : k ≡ n = eqb-true k n e in
        rw same (subst (λ (j : ℕ). get_or (listed n f ++ (f n ∷ [])) j d ≡ f n) l (get_or-append_seam (listed n f) (f n) [] d))
    go false e ih =
        let less : k < n = omega (arith, eqb-false k n e) in
        get_or-append (listed n f) (f n ∷ []) d k (omega (arith, l, less)) ∙ ih less

-- ---- the row told
pub record At (is os : List Row) (m c : ℕ) : Type 0 where
  pub fails : Fails (get_or is m no_row) (get_or os m no_row) c
  pub there : m < length is

apart_at : (k j c : ℕ) (is os : List Row) → Apart k is os j c → (m : ℕ) × (j ≡ k + m) × At is os m c
apart_at k j c (i ∷ is) (o ∷ os) (here f) = (0, omega arith, record { fails = f; there = omega arith })
apart_at k j c (i ∷ is) (o ∷ os) (later w a) = go (apart_at (suc k) j c is os a)
  where
    go : (m : ℕ) × (j ≡ suc k + m) × At is os m c → (m : ℕ) × (j ≡ k + m) × At (i ∷ is) (o ∷ os) m c
    go (m, e, t) = (suc m, omega arith, record { fails = t.fails; there = omega (arith, t.there) })
apart_at k j c [] os x' = elim x' [ ]
apart_at k j c (i ∷ is) [] x3 = elim x3 [ ]

-- both editions are well formed, and the clause told fails of the row told
pub record Told (i o : Edition) (n : Nesting) : Type 0 where
  pub inner : formed_of i ≡ Well
  pub outer : formed_of o ≡ Well
  pub at : At i.rows o.rows n.row n.clause

pub told_at : (i o : Edition) (n : Nesting) → n.row < 16 → Said i o n → Told i o n
told_at i o n h (is-nested m e) = let z : n.row ≡ 17 = ap (λ (x : Nesting). x.row) e in absurd (omega arith)
told_at i o n h (inner-bad m e) = let z : n.row ≡ 17 = ap (λ (x : Nesting). x.row) e in absurd (omega arith)
told_at i o n h (outer-bad p m e) = let z : n.row ≡ 17 = ap (λ (x : Nesting). x.row) e in absurd (omega arith)
told_at i o n h (apart k c p q a e) = record { inner = p; outer = q; at = rw e (go (apart_at 0 k c i.rows o.rows a)) }
  where
    go : (m : ℕ) × (k ≡ 0 + m) × At i.rows o.rows m c → At i.rows o.rows k c
    go (m, e, t) = let same : m ≡ k = omega arith in subst (λ (j : ℕ). At i.rows o.rows j c) same t

-- ---- the outer's rows are not all met
pub met_at : (ts : List ℕ) (rs : List Row) (vs : List (List ℕ)) (k : ℕ) → AllMet (entries ts rs) vs → k < length vs → RowMet (get_or rs k no_row) (get_or vs k [])
unfolding entries
met_at [] rs [] k a h = absurd (not-suc-le-zero h)
met_at (t ∷ ts) [] [] k a h = absurd (not-suc-le-zero h)
met_at (t ∷ ts) (r ∷ rs) [] k a h = absurd (not-suc-le-zero h)
met_at (t ∷ ts) (r ∷ rs) (v ∷ vs) zero (one_more m a) h = m
met_at (t ∷ ts) (r ∷ rs) (v ∷ vs) (suc k) (one_more m a) h = met_at ts rs vs k a (le_of_suc-le-suc h)
met_at [] rs (v ∷ vs) k a h = elim a [ ]
met_at (t ∷ ts) [] (v ∷ vs) k a h = elim a [ ]

-- ---- the rows of the inner, the one told narrowed
pub row_told : (is os : List Row) (n : Nesting) → n.row < length is → get_or (rows_for is os n) n.row no_row ≡ narrow n.clause (get_or is n.row no_row) (get_or os n.row no_row)
unfolding rows_for
row_told is os n h = get_or-set_same is n.row _ no_row h

pub row_other : (is os : List Row) (n : Nesting) (k : ℕ) → (k ≡ n.row → ⊥) → get_or (rows_for is os n) k no_row ≡ get_or is k no_row
unfolding rows_for
row_other is os n k h = get_or-set_other is n.row k _ no_row h

-- ---- the value at a row, and its length
pub part_told : (n : Nesting) → part_of n n.row ≡ n.clause
unfolding part_of
part_told n = rw (eq-eqb n.row n.row refl)

pub part_other : (n : Nesting) (k : ℕ) → (k ≡ n.row → ⊥) → part_of n k ≡ 4
unfolding part_of
part_other n k h = rw (ne_eqb k n.row h)

pub value_at_lem : (is os : List Row) (n : Nesting) (long : ℕ) (k : ℕ) → k < 16 → get_or (values_of is os n long) k [] ≡ value_at is os (rows_for is os n) n long k
unfolding values_of
value_at_lem is os n long k h = listed_at 16 (value_at is os (rows_for is os n) n long) k [] h

pub values_length : (is os : List Row) (n : Nesting) (long : ℕ) → length (values_of is os n long) ≡ 16
unfolding values_of
values_length is os n long = listed_length 16 (value_at is os (rows_for is os n) n long)

pub length_at_lem : (is os : List Row) (n : Nesting) (long : ℕ) (k : ℕ) → k < 16 → length (get_or (values_of is os n long) k []) ≡ length_at (rows_for is os n) long k
unfolding length_at
length_at_lem is os n long k h =
    ap length (value_at_lem is os n long k h)
    ∙ value_length (part_of n k) (get_or is k no_row) (get_or os k no_row) (length_at (rows_for is os n) long k) (length_small (ltb (start_of k) long) (rows_for is os n) k)

-- ---- both sums, by the lengths of the values
lengths_at : (vs : List (List ℕ)) (k : ℕ) → get_or (map length vs) k 0 ≡ length (get_or vs k [])
lengths_at vs k = get_or-map length vs k []

pub names_by : (vs : List (List ℕ)) (f : ℕ → ℕ) → ((k : ℕ) → k < 16 → length (get_or vs k []) ≡ f k) → names_fit (map length vs) ≡ sum_holds true (three (f 6) (f 7) (f 8))
unfolding names_fit sum_holds
names_by vs f h =
    let a : get_or (map length vs) 6 0 ≡ f 6 = lengths_at vs 6 ∙ h 6 (omega arith) in
    let b : get_or (map length vs) 7 0 ≡ f 7 = lengths_at vs 7 ∙ h 7 (omega arith) in
    let c : get_or (map length vs) 8 0 ≡ f 8 = lengths_at vs 8 ∙ h 8 (omega arith) in
    rw (a, b, c)

pub town_by : (vs : List (List ℕ)) (f : ℕ → ℕ) → ((k : ℕ) → k < 16 → length (get_or vs k []) ≡ f k) → town_fits (map length vs) ≡ sum_holds false (three (f 12) (f 13) (f 14))
unfolding town_fits sum_holds
town_by vs f h =
    let a : get_or (map length vs) 12 0 ≡ f 12 = lengths_at vs 12 ∙ h 12 (omega arith) in
    let b : get_or (map length vs) 13 0 ≡ f 13 = lengths_at vs 13 ∙ h 13 (omega arith) in
    let c : get_or (map length vs) 14 0 ≡ f 14 = lengths_at vs 14 ∙ h 14 (omega arith) in
    rw (a, b, c)

-- each row but the checksum's is well formed
pub formed_at : (e : Edition) (k : ℕ) → length e.rows ≡ 17 → formed_of e ≡ Well → k < 16 → row_formed false (get_or e.rows k no_row) ≡ true
formed_at e k l f b =
    let other : eqb k 16 ≡ false = ne_eqb k 16 (omega arith) in
    subst (λ (q : Bool). row_formed q (get_or e.rows k no_row) ≡ true) other (formed_row e.rows k (formed_rows e f) (omega arith))
