-- The checks in their order are the refusal. Assumes nothing.
use mathlib.Core.Path.{◌≡◌, refl}
use mathlib.Core.Bool.{Bool, true, false, ◌&&◌}
use Prim.Native.Nat.{ℕ}
use mathlib.Core.List.{map}
use lib.ListN.{length}
use borrow.Author.Tests.{eq-eqb, ne_eqb}
use Rattle.ground.proofs.Lists.{true_false, and_left, and_right}
use Rattle.edition.specs.declared.Edition.{Edition}
use Rattle.edition.specs.Rows.{formed_of}
use Rattle.card.specs.declared.Refusal.{Refusal}
use Rattle.card.specs.Content.{Content}
use Rattle.card.specs.Refusals.{refuse, none, gate, or_else, bad_row}
use Rattle.card.specs.Rules.{object_rows, first_allowed, last_allowed}
use Rattle.card.proofs.Chains.{or_pass}
use Rattle.card.specs.Sums.{sums_refusal, nowhere}
use Rattle.card.specs.Refusing.{rows_refusal, ends_refusal, template_refusal, number_refusal, content_refusal, edition_refusal, write_refusal}

-- ---- the ends, both told alike
pub ends_allowed : (first last : ℕ) → (first_allowed first && last_allowed first last) ≡ true → ends_refusal first last ≡ none
unfolding ends_refusal gate
ends_allowed first last e = rw (and_left (first_allowed first) (last_allowed first last) e, and_right (first_allowed first) (last_allowed first last) e)

pub ends_refused : (first last : ℕ) → (first_allowed first && last_allowed first last) ≡ false → ends_refusal first last ≡ refuse 3 0 0
unfolding ends_refusal gate
ends_refused first last e = go (first_allowed first) (last_allowed first last) e
  where
    go : (p q : Bool) → (p && q) ≡ false → gate p (refuse 3 0 0) (gate q (refuse 3 0 0) none) ≡ refuse 3 0 0
    go true true z = absurd (true_false refl z)
    go true false z = refl
    go false q z = refl

-- ---- the numbers of edition and record
pub numbers_same : (edition number : ℕ) → number ≡ edition → none ≡ number_refusal edition number
unfolding number_refusal gate
numbers_same edition number h = rw (eq-eqb number edition h)

pub numbers_differ : (edition number : ℕ) → (number ≡ edition → ⊥) → refuse 22 0 0 ≡ number_refusal edition number
unfolding number_refusal gate
numbers_differ edition number h = rw (ne_eqb number edition h)

-- ---- the whole
pub refused_size : (e : Edition) (number : ℕ) (c : Content) (n : ℕ) → (n ≡ 256 → ⊥) → write_refusal e number c n ≡ refuse 20 0 0
unfolding write_refusal gate or_else
refused_size e number c n h = rw (ne_eqb n 256 h)

-- in a buffer of 256 bytes: the table, the number, the content
pub in_order : (e : Edition) (number : ℕ) (c : Content) (n : ℕ) {table : Refusal} → n ≡ 256 → table ≡ bad_row (formed_of e)
    → write_refusal e number c n ≡ or_else table (or_else (number_refusal e.number number) (content_refusal e c))
unfolding write_refusal gate
in_order e number c n h et = rw (eq-eqb n 256 h, et) (or_pass none _ refl)

-- the table, the content
pub edition_order : (e : Edition) (c : Content) {table : Refusal} → table ≡ bad_row (formed_of e) → edition_refusal e c ≡ or_else table (content_refusal e c)
unfolding edition_refusal
edition_order e c et = rw et

-- the ends, the rows, the sums, the template
pub content_order : (e : Edition) (c : Content) {ends rows sizes : Refusal} → ends ≡ ends_refusal c.first c.last
    → rows ≡ rows_refusal (object_rows e) c.values → sizes ≡ or_else (sums_refusal nowhere (map length c.values)) (template_refusal c)
    → content_refusal e c ≡ or_else ends (or_else rows sizes)
unfolding content_refusal
content_order e c ee er es = rw (ee, er, es)
