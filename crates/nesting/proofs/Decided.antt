-- The decision is nesting, and its answer says which row and which clause; issue is nested in terminal by it. Assumes nothing.
use Prim.Native.Nat.{ℕ, suc}
use native.Mathlib.Omega.{arith}
use mathlib.Core.Path.{◌≡◌, refl, sym, ap, ◌∙◌}
use mathlib.Core.Logic.{◌↔◌}
use mathlib.Core.Bool.{Bool, true, false, cond, not, ◌||◌}
use mathlib.Core.List.{List, [], ◌∷◌}
use lib.Bits.{bit_and}
use lib.Dec.{eqb}
use lib.ListN.{length}
use borrow.Author.Tests.{eqb-true, eqb-false}
use Rattle.edition.specs.declared.Row.{Row}
use Rattle.edition.specs.declared.Edition.{Edition}
use Rattle.edition.specs.declared.Formed.{Formed}
use Rattle.edition.specs.declared.Formed.TheVariants.{Well, Bad, Unnumbered}
use Rattle.edition.specs.Sets.{permitted}
use Rattle.edition.specs.Rows.{row_formed, formed_from, formed_of}
use Rattle.edition.specs.Tables.{table, terminal, issue}
use Rattle.edition.proofs.Rows.{Within28, row_within, formed_rows, formed_head}
use Rattle.ground.proofs.Lists.{true_false}
use Rattle.nesting.specs.declared.Nesting.{Nesting}
use Rattle.nesting.specs.Nested.{Within, NestedRows, no_rows, one-row, Nested}
use Rattle.nesting.specs.Decision.{rule_in, numbers_in, clause_of, told, nesting_from, is_well, nesting_of}
use Rattle.nesting.specs.Answers.{Fails, a-length, a-value, asked, Apart, here, later, Said, is-nested, inner-bad, outer-bad, apart}
use Rattle.nesting.proofs.Lengths.{bits_within, Lone, lone}
use Rattle.nesting.proofs.Sound.{rule_sound}
use Rattle.nesting.proofs.Samples.{witnessed}

-- ---- of a row: within, or the clause that fails
pub data RowSaid (i o : Row) : ℕ → Type 0 where
  fine : Within i o → RowSaid i o 0
  fails : (c : ℕ) → Fails i o c → eqb c 0 ≡ false → RowSaid i o c

asks_both : (a b : Bool) → (not a || b) ≡ true → a ≡ true → b ≡ true
asks_both true b h t = h
asks_both false b h t = absurd (true_false t refl)

asks_one : (a b : Bool) → (not a || b) ≡ false → (a ≡ true) × (b ≡ false)
asks_one true b h = (refl, h)
asks_one false b h = absurd (true_false refl h)

row_said : (last : Bool) (i o : Row) → row_formed last i ≡ true → row_formed last o ≡ true → RowSaid i o (clause_of i o)
unfolding clause_of
row_said last i o p q = go (eqb (bit_and i.lengths o.lengths) i.lengths) (rule_in i.lengths i.rule o.rule) (not o.required || i.required) refl refl refl
  where
    w : Within28 i.lengths
    w = row_within last i p

    go : (a b c : Bool) → eqb (bit_and i.lengths o.lengths) i.lengths ≡ a → rule_in i.lengths i.rule o.rule ≡ b → (not o.required || i.required) ≡ c
        → RowSaid i o (cond a (cond b (cond c 0 3) 2) 1)
    go false b c e f g = let l : Lone i.lengths o.lengths = lone i.lengths o.lengths w.even w.small e in fails 1 (a-length l.size l.inner l.outer) refl
    go true false c e f g = fails 2 (a-value (bits_within i.lengths o.lengths (eqb-true _ _ e)) (witnessed last i o p q f)) refl
    go true true false e f g =
        let r = asks_one o.required i.required g in
        fails 3 (asked (bits_within i.lengths o.lengths (eqb-true _ _ e)) (rule_sound i.lengths i.rule o.rule f) r.0 r.1) refl
    go true true true e f g = fine (record {
      shorter = bits_within i.lengths o.lengths (eqb-true _ _ e);
      takes = rule_sound i.lengths i.rule o.rule f;
      asks = asks_both o.required i.required g;
    })

-- what fails is not within
not_within : (i o : Row) (c : ℕ) → Fails i o c → Within i o → ⊥
not_within i o c (a-length n p q) w = true_false (w.shorter n p) q
not_within i o c (a-value s a) w = a.outer (w.takes _ a.permitted a.inner)
not_within i o c (asked s t r q) w = true_false (w.asks r) q

-- ---- of the rows: nested, or the first of which a clause fails
pub data RowsSaid (k : ℕ) (is os : List Row) (r : Nesting) : Type 0 where
  all : NestedRows is os → r ≡ told 0 17 → RowsSaid k is os r
  first : (j c : ℕ) → Apart k is os j c → eqb c 0 ≡ false → r ≡ told c j → RowsSaid k is os r

rows_more : (k : ℕ) (i o : Row) (is os : List Row) → Within i o → RowsSaid (suc k) is os (nesting_from (suc k) is os)
    → RowsSaid k (i ∷ is) (o ∷ os) (nesting_from (suc k) is os)
rows_more k i o is os w (all n e) = all (one-row w n) e
rows_more k i o is os w (first j c a z e) = first j c (later w a) z e

rows_step : (k : ℕ) (i o : Row) (is os : List Row) (c : ℕ) → RowSaid i o c → RowsSaid (suc k) is os (nesting_from (suc k) is os)
    → RowsSaid k (i ∷ is) (o ∷ os) (cond (eqb c 0) (nesting_from (suc k) is os) (told c k))
rows_step k i o is os c (fine w) h = rows_more k i o is os w h
rows_step k i o is os c (fails d f z) h = rw z (first k c (here f) z refl)

rows_said : (k : ℕ) (is os : List Row) → length is ≡ length os → formed_from k is ≡ Well → formed_from k os ≡ Well → RowsSaid k is os (nesting_from k is os)
unfolding nesting_from
rows_said k [] [] l p q = all no_rows refl
rows_said k [] (o ∷ os) l p q = absurd (omega arith)
rows_said k (i ∷ is) [] l p q = absurd (omega arith)
rows_said k (i ∷ is) (o ∷ os) l p q =
    let a = formed_head k i is p in
    let b = formed_head k o os q in
    rows_step k i o is os (clause_of i o) (row_said (eqb k 16) i o a.0 b.0) (rows_said (suc k) is os (omega arith) a.1 b.1)

-- ---- of two editions
well_is : (f : Formed) → is_well f ≡ true → f ≡ Well
well_is Well h = refl
well_is (Bad k) h = absurd (true_false h refl)
well_is Unnumbered h = absurd (true_false h refl)

ill_is : (f : Formed) → is_well f ≡ false → f ≡ Well → ⊥
ill_is f h e = true_false (rw e) h

both_said : (i o : Edition) → formed_of i ≡ Well → formed_of o ≡ Well → RowsSaid 0 i.rows o.rows (nesting_from 0 i.rows o.rows) → Said i o (nesting_from 0 i.rows o.rows)
both_said i o p q (all n e) = is-nested (record { inner = p; outer = q; rows = n }) e
both_said i o p q (first j c a z e) = apart j c p q a e

-- what the answer says is so: nested, or an edition that is not well formed, or the first row of which a clause fails, and the clause
pub nesting_said : (i o : Edition) → length i.rows ≡ length o.rows → Said i o (nesting_of i o)
unfolding nesting_of
nesting_said i o l = go (is_well (formed_of i)) (is_well (formed_of o)) refl refl
  where
    go : (a b : Bool) → is_well (formed_of i) ≡ a → is_well (formed_of o) ≡ b → Said i o (cond a (cond b (nesting_from 0 i.rows o.rows) (told 5 17)) (told 4 17))
    go false b e f = inner-bad (ill_is (formed_of i) e) refl
    go true false e f = outer-bad (well_is (formed_of i) e) (ill_is (formed_of o) f) refl
    go true true e f =
        let p : formed_of i ≡ Well = well_is (formed_of i) e in
        let q : formed_of o ≡ Well = well_is (formed_of o) f in
        both_said i o p q (rows_said 0 i.rows o.rows l (formed_rows i p) (formed_rows o q))

-- rows of which a clause fails are not nested
apart_not : (k j c : ℕ) (is os : List Row) → Apart k is os j c → NestedRows is os → ⊥
apart_not k j c (i ∷ is) (o ∷ os) (here f) (one-row w n) = not_within i o c f w
apart_not k j c (i ∷ is) (o ∷ os) (later v a) (one-row w n) = apart_not (suc k) j c is os a n
apart_not k j c [] os x'' _ = elim x'' [ ]
apart_not k j c (i ∷ is) [] x5 _ = elim x5 [ ]

rows_length : (is os : List Row) → NestedRows is os → length is ≡ length os
rows_length [] [] no_rows = refl
rows_length (i ∷ is) (o ∷ os) (one-row w n) = ap suc (rows_length is os n)
rows_length [] (o ∷ os) x'' = elim x'' [ ]
rows_length (i ∷ is) [] x3 = elim x3 [ ]

-- no clause fails only where the rows are as many
none_fails : (k : ℕ) (is os : List Row) → formed_from k is ≡ Well → formed_from k os ≡ Well → (nesting_from k is os).clause ≡ 0 → length is ≡ length os
unfolding nesting_from
none_fails k [] [] p q z = refl
none_fails k [] (o ∷ os) p q z = absurd (omega arith)
none_fails k (i ∷ is) [] p q z = absurd (omega arith)
none_fails k (i ∷ is) (o ∷ os) p q z = go (eqb (clause_of i o) 0) refl (none_fails (suc k) is os (formed_head k i is p).1 (formed_head k o os q).1)
  where
    go : (t : Bool) → eqb (clause_of i o) 0 ≡ t → ((nesting_from (suc k) is os).clause ≡ 0 → length is ≡ length os) → suc (length is) ≡ suc (length os)
    go true e h = ap suc (h (rw e at z))
    go false e h = absurd (eqb-false (clause_of i o) 0 e (rw e at z))

from_rows : (i o : Edition) → formed_of i ≡ Well → formed_of o ≡ Well → (r : Nesting) → RowsSaid 0 i.rows o.rows r → r.clause ≡ 0 → Nested i o
from_rows i o p q r (all n e) h = record { inner = p; outer = q; rows = n }
from_rows i o p q r (first j c a z e) h = absurd (eqb-false c 0 z (sym (ap (λ (x : Nesting). x.clause) e) ∙ h))

zero_clause : (i o : Edition) → Nested i o → (r : Nesting) → RowsSaid 0 i.rows o.rows r → r.clause ≡ 0
zero_clause i o n r (all m e) = ap (λ (x : Nesting). x.clause) e
zero_clause i o n r (first j c a z e) = absurd (apart_not 0 j c i.rows o.rows a n.rows)

-- the answer is yes exactly where the inner edition is nested in the outer
pub nested_decided : (i o : Edition) → ((nesting_of i o).clause ≡ 0) ↔ Nested i o
unfolding nesting_of
nested_decided i o = (λ h. yes-nested (is_well (formed_of i)) (is_well (formed_of o)) refl refl h, nested-yes)
  where
    yes-nested : (a b : Bool) → is_well (formed_of i) ≡ a → is_well (formed_of o) ≡ b
        → (cond a (cond b (nesting_from 0 i.rows o.rows) (told 5 17)) (told 4 17)).clause ≡ 0 → Nested i o
    yes-nested false b e f h = absurd (omega arith)
    yes-nested true false e f h = absurd (omega arith)
    yes-nested true true e f h =
        let p : formed_of i ≡ Well = well_is (formed_of i) e in
        let q : formed_of o ≡ Well = well_is (formed_of o) f in
        let l = none_fails 0 i.rows o.rows (formed_rows i p) (formed_rows o q) h in
        from_rows i o p q (nesting_from 0 i.rows o.rows) (rows_said 0 i.rows o.rows l (formed_rows i p) (formed_rows o q)) h

    nested-yes : Nested i o → (cond (is_well (formed_of i)) (cond (is_well (formed_of o)) (nesting_from 0 i.rows o.rows) (told 5 17)) (told 4 17)).clause ≡ 0
    nested-yes n = rw (n.inner, n.outer) (zero_clause i o n (nesting_from 0 i.rows o.rows) (rows_said 0 i.rows o.rows (rows_length i.rows o.rows n.rows) (formed_rows i n.inner) (formed_rows o n.outer)))

shipped : (nesting_of issue terminal ≡ told 0 17) × (nesting_of terminal issue ≡ told 3 2)
unfolding issue terminal table nesting_of formed_of formed_from nesting_from clause_of numbers_in permitted
shipped = (refl, refl)

pub issue_nested : Nested issue terminal
issue_nested = (nested_decided issue terminal).0 (ap (λ (x : Nesting). x.clause) shipped.0)

pub terminal_not_nested : Nested terminal issue → ⊥
terminal_not_nested n =
    let z : ◌≡◌ {A = ℕ} 3 0 = sym (ap (λ (x : Nesting). x.clause) shipped.1) ∙ (nested_decided terminal issue).1 n in
    omega arith
