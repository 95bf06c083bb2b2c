-- How many rows are long: one turn of the search, and its two ends, by the size of a record; and that the card is big enough where any of them is. Assumes nothing.
use Prim.Native.Nat.{ℕ, zero, suc, ◌+◌, ◌-◌, ◌<◌, ◌≤◌}
use native.Mathlib.Numerals.{add-one}
use native.Mathlib.Omega.{arith}
use mathlib.Core.Path.{◌≡◌, refl, sym, ap, ◌∙◌, subst}
use mathlib.Core.Bool.{Bool, true, false, cond}
use lib.Dec.{eqb}
use lib.ListN.{length}
use borrow.Author.Tests.{eqb-true, eqb-false, le-leb, lt-leb}
use Rattle.ground.proofs.Lists.{true_false}
use Rattle.edition.specs.declared.Edition.{Edition}
use Rattle.nesting.specs.declared.Nesting.{Nesting}
use Rattle.card.specs.declared.Record.{Record}
use Rattle.card.specs.Content.{Content, content_of, record_of}
use Rattle.card.specs.Layout.{objects_of, template_length}
use Rattle.card.proofs.Records.{content_back}
use Rattle.example.specs.Cards.{card_of, enough, first_from, chosen_card}

-- ---- the first that will do
first_here : (f : ℕ → Bool) (m k : ℕ) → f k ≡ true → first_from f m k ≡ k
unfolding first_from
first_here f zero k h = refl
first_here f (suc m) k h = rw h

first_next : (f : ℕ → Bool) (m k : ℕ) → f k ≡ false → first_from f (suc m) k ≡ first_from f m (suc k)
unfolding first_from
first_next f m k h = rw h

first_turn : (f : ℕ → Bool) (k : ℕ) → k < 16 → f k ≡ false → first_from f (16 - k) k ≡ first_from f (16 - (k + 1)) (k + 1)
first_turn f k b h =
    let e : 16 - k ≡ suc (16 - (k + 1)) = omega arith in
    rw (e, add-one) (first_next f (16 - (suc k)) k h)

first_end : (f : ℕ → Bool) (k : ℕ) → k ≡ 16 → first_from f (16 - k) k ≡ 16
unfolding first_from
first_end f k e = rw e

-- ---- by the size of a record
module _ (i o : Edition) (n : Nesting) (long : ℕ) (r : Record) (size : ℕ) (made : r ≡ record_of i.number (card_of i o n long)) (s : size ≡ length (objects_of (content_of r))) where
  same_size : size ≡ length (objects_of (card_of i o n long))
  same_size = s ∙ ap (λ (c : Content). length (objects_of c)) (ap content_of made ∙ content_back i.number (card_of i o n long))

  is-enough : 70 ≤ size + 3 → enough i o n long ≡ true
  unfolding enough
  is-enough h = le-leb 70 (template_length (objects_of (card_of i o n long))) (omega (arith, same_size))

  is-short : size + 3 < 70 → enough i o n long ≡ false
  unfolding enough
  is-short h = lt-leb 70 (template_length (objects_of (card_of i o n long))) (omega (arith, same_size))

  pub chosen_here : first_from (enough i o n) 16 0 ≡ first_from (enough i o n) (16 - long) long → 70 ≤ size + 3 → r ≡ record_of i.number (chosen_card i o n)
  unfolding chosen_card
  chosen_here e h =
      let same : long ≡ first_from (enough i o n) 16 0 = sym (e ∙ first_here (enough i o n) (16 - long) long (is-enough h)) in
      made ∙ ap (λ (k : ℕ). record_of i.number (card_of i o n k)) same

  pub chosen_turn : first_from (enough i o n) 16 0 ≡ first_from (enough i o n) (16 - long) long → long < 16 → size + 3 < 70
      → first_from (enough i o n) 16 0 ≡ first_from (enough i o n) (16 - (long + 1)) (long + 1)
  chosen_turn e b h = e ∙ first_turn (enough i o n) long b (is-short h)

pub chosen_all : (i o : Edition) (n : Nesting) (long : ℕ) → first_from (enough i o n) 16 0 ≡ first_from (enough i o n) (16 - long) long → long ≡ 16
    → record_of i.number (card_of i o n 16) ≡ record_of i.number (chosen_card i o n)
unfolding chosen_card
chosen_all i o n long e l =
    let same : first_from (enough i o n) 16 0 ≡ 16 = e ∙ first_end (enough i o n) long l in
    ap (λ (k : ℕ). record_of i.number (card_of i o n k)) (sym same)

-- ---- where any of the cards is big enough, the one chosen is
first_does : (f : ℕ → Bool) (m k j : ℕ) → k ≤ j → j ≤ k + m → f j ≡ true → f (first_from f m k) ≡ true
unfolding first_from
first_does f zero k j a b h = let e : j ≡ k = omega arith in subst (λ (x : ℕ). f x ≡ true) e h
first_does f (suc m) k j a b h = go (f k) refl (first_does f m (suc k) j)
  where
    go : (q : Bool) → f k ≡ q → (suc k ≤ j → j ≤ suc k + m → f j ≡ true → f (first_from f m (suc k)) ≡ true) → f (cond q k (first_from f m (suc k))) ≡ true
    go true e ih = e
    go false e ih = further (eqb k j) refl
      where
        further : (p : Bool) → eqb k j ≡ p → f (first_from f m (suc k)) ≡ true
        further true s = absurd (true_false h (ap f (sym (eqb-true k j s)) ∙ e))
        further false s = ih (omega (arith, eqb-false k j s)) (omega arith) h

pub chosen_enough : (i o : Edition) (n : Nesting) (long : ℕ) → long ≤ 16 → enough i o n long ≡ true → enough i o n (first_from (enough i o n) 16 0) ≡ true
chosen_enough i o n long b h = first_does (enough i o n) 16 0 long (omega arith) (omega arith) h
