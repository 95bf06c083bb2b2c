-- A chain of refusals: the first that has a number is the answer. Assumes nothing.
use mathlib.Core.Path.{◌≡◌, refl}
use mathlib.Core.Bool.{Bool, true, false, cond}
use native.Mathlib.Omega.{arith}
use borrow.Author.Tests.{eq-eqb, ne_eqb, eqb-true, eqb-false}
use Prim.Native.Nat.{ℕ, ◌+◌}
use mathlib.Core.List.{List}
use lib.Dec.{eqb, leb}
use lib.ListN.{length, take}
use Rattle.edition.specs.declared.Edition.{Edition}
use Rattle.edition.specs.declared.Formed.{Formed}
use Rattle.edition.specs.declared.Formed.TheVariants.{Well, Bad, Unnumbered}
use Rattle.card.specs.declared.Refusal.{Refusal}
use Rattle.card.specs.Content.{Content}
use Rattle.card.specs.Refusals.{none, gate, or_else, bad_row}
use Rattle.lengths.specs.Lengths.{length_field}
use Rattle.card.specs.Layout.{spaces}
use Rattle.card.specs.Frame.{tail_part}
use Rattle.card.specs.Places.{no_places, placed, places_of}
use Rattle.card.specs.Walk.{Walked, stopped}
use Rattle.card.specs.Reading.{accepted, refused, values_in, walk_refusal, walk_of, read_refusal, content_at, answered, answer}

pub or_pass : (a b : Refusal) → a.number ≡ 0 → or_else a b ≡ b
unfolding or_else
or_pass a b e = rw (eq-eqb a.number 0 e)

pub or_stop : (a b : Refusal) → (a.number ≡ 0 → ⊥) → or_else a b ≡ a
unfolding or_else
or_stop a b e = rw (ne_eqb a.number 0 e)

pub or_assoc : (a b c : Refusal) → or_else (or_else a b) c ≡ or_else a (or_else b c)
unfolding or_else
or_assoc a b c = go (eqb a.number 0) refl
  where
    go : (z : Bool) → eqb a.number 0 ≡ z → or_else (cond z b a) c ≡ cond z (or_else b c) a
    go true e = refl
    go false e = rw e

-- what holds of both holds of the chain
pub or_keeps : (P : Refusal → Type 0) (a b : Refusal) → P a → P b → P (or_else a b)
unfolding or_else
or_keeps P a b p q = go (eqb a.number 0)
  where
    go : (z : Bool) → P (cond z b a)
    go true = q
    go false = p

-- the second comes after the first has refused nothing
pub or_after : (P : Refusal → Type 0) (a b : Refusal) → P a → (a.number ≡ 0 → P b) → P (or_else a b)
unfolding or_else
or_after P a b p q = go (eqb a.number 0) refl
  where
    go : (z : Bool) → eqb a.number 0 ≡ z → P (cond z b a)
    go true e = q (eqb-true _ _ e)
    go false e = p

pub gate_after : (P : Refusal → Type 0) (q : Bool) (x w : Refusal) → (q ≡ false → P x) → (q ≡ true → P w) → P (gate q x w)
unfolding gate
gate_after P true x w f g = g refl
gate_after P false x w f g = f refl

-- a chain that refuses nothing: neither does
pub record Neither (a b : Refusal) : Type 0 where
  pub first : a.number ≡ 0
  pub second : b.number ≡ 0

pub neither : (a b : Refusal) → (or_else a b).number ≡ 0 → Neither a b
unfolding or_else
neither a b h = go (eqb a.number 0) refl h
  where
    go : (q : Bool) → eqb a.number 0 ≡ q → (cond q b a).number ≡ 0 → Neither a b
    go true e k = record { first = eqb-true _ _ e; second = k }
    go false e k = absurd (eqb-false _ _ e k)

-- a test that refuses nothing holds
pub gate_in : (q : Bool) (x w : Refusal) → (x.number ≡ 0 → ⊥) → (gate q x w).number ≡ 0 → (q ≡ true) × (w.number ≡ 0)
unfolding gate
gate_in true x w n e = (refl, e)
gate_in false x w n e = absurd (n e)

-- what holds of 14 to 17 holds of a wrong tail's number
pub of_tail : (P : ℕ → Type 0) → P 14 → P 15 → P 16 → P 17 → (t at : ℕ) → P (tail_part t at)
unfolding tail_part
of_tail P p14 p15 p16 p17 t at = go (eqb at 0) (leb at (length (length_field (spaces t)))) (leb at (length (length_field (spaces t)) + spaces t))
  where
    go : (a b c : Bool) → P (cond a 14 (cond b 15 (cond c 16 17)))
    go true b c = p14
    go false true c = p15
    go false false true = p16
    go false false false = p17

pub tail_some : (t at : ℕ) → tail_part t at ≡ 0 → ⊥
tail_some = of_tail (λ (n : ℕ). n ≡ 0 → ⊥) (λ e. omega arith) (λ e. omega arith) (λ e. omega arith) (λ e. omega arith)

pub table_well : (f : Formed) → (bad_row f).number ≡ 0 → f ≡ Well
unfolding bad_row
table_well Well e = refl
table_well (Bad k) e = absurd (omega arith)
table_well Unnumbered e = absurd (omega arith)

-- ---- the answer of a chain
pub answered_in : (x : Refusal) (c d : Content) → answered x c ≡ accepted d → (x.number ≡ 0) × (c ≡ d)
unfolding answered
answered_in x c d h = go (eqb x.number 0) refl h
  where
    go : (q : Bool) → eqb x.number 0 ≡ q → cond q (accepted c) (refused x) ≡ accepted d → (x.number ≡ 0) × (c ≡ d)
    go true e k = (eqb-true _ _ e, cc)
    go false e k = (cc, cc)

pub refused_in : (x : Refusal) (c : Content) (y : Refusal) → answered x c ≡ refused y → (x.number ≡ 0 → ⊥) × (x ≡ y)
unfolding answered
refused_in x c y h = go (eqb x.number 0) refl h
  where
    go : (q : Bool) → eqb x.number 0 ≡ q → cond q (accepted c) (refused x) ≡ refused y → (x.number ≡ 0 → ⊥) × (x ≡ y)
    go true e k = absurd (let z : ◌≡◌ {A = ℕ} 0 1 = cc in omega arith)
    go false e k = (eqb-false _ _ e, cc)

pub answered_pass : (x : Refusal) (c : Content) → x.number ≡ 0 → answered x c ≡ accepted c
unfolding answered
answered_pass x c h = rw h

pub answered_stop : (x : Refusal) (c : Content) → (x.number ≡ 0 → ⊥) → answered x c ≡ refused x
unfolding answered
answered_stop x c h = rw (ne_eqb x.number 0 h)

-- a refusal of the walk is the answer
pub stopped_first : (s : List ℕ) (x : Refusal) (c : Content) → (x.number ≡ 0 → ⊥) → answered (walk_refusal s (stopped x)) c ≡ refused x
unfolding walk_refusal
stopped_first s x c h = rw (or_stop x _ h) (answered_stop x c h)

-- the answer by what the walk has found
pub answer_by : (e : Edition) (s : List ℕ) (w : Walked) → read_refusal e s ≡ walk_refusal s (walk_of e s) → walk_of e s ≡ w → answer e s ≡ answered (walk_refusal s w) (content_at s (take 16 (values_in w)))
unfolding answer
answer_by e s w r q = rw (r, q)

pub places_by_lem : (at : ℕ) (x : Refusal) (c : Content) → places_of at (answered x c) ≡ placed x at c.values
unfolding places_of answered placed
places_by_lem at x c = go (eqb x.number 0)
  where
    go : (q : Bool) → places_of at (cond q (accepted c) (refused x)) ≡ cond q (placed none at c.values) (no_places x)
    go true = refl
    go false = refl
