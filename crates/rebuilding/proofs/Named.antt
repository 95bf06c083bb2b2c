-- A number looked for in a list: by `contains`, and from the i-th place on. Assumes nothing.
use Prim.Native.Nat.{ℕ, ◌+◌, ◌≤◌, ◌<◌}
use native.Mathlib.Numerals.{add-one}
use borrow.Author.Tests.{eqb-true, eqb-false, eq-eqb, ne_eqb}
use mathlib.Core.Path.{refl, sym, ◌≡◌, ◌∙◌}
use mathlib.Core.Bool.{Bool, true, false}
use mathlib.Core.List.{List, [], ◌∷◌}
use lib.Dec.{eqb}
use lib.ListN.{length, drop, get_or, drop_of_length-le}
use lib.Seq.{drop-cons}
use Rattle.std.specs.List.{list_any}
use Rattle.ground.specs.Lists.{among}

eqb_swap : (a b : ℕ) → eqb a b ≡ eqb b a
eqb_swap a b = go (eqb a b) refl
  where
    go : (q : Bool) → eqb a b ≡ q → eqb a b ≡ eqb b a
    go true e = e ∙ sym (eq-eqb b a (sym (eqb-true a b e)))
    go false e = e ∙ sym (ne_eqb b a (λ z. eqb-false a b e (sym z)))

pub among_contains : (b : ℕ) (l : List ℕ) → list_any (λ y. eqb y b) l ≡ among b l
unfolding among
among_contains b [] = refl
among_contains b (x ∷ l) = rw (eqb_swap x b, among_contains b l)

module _ (b : ℕ) (l : List ℕ) (i : ℕ) where
  pub among_here : i < length l → get_or l i 0 ≡ b → among b (drop i l) ≡ true
  unfolding among
  among_here h e = rw (drop-cons l i 0 h, e, eq-eqb b b refl)

  pub among_behind : i < length l → (get_or l i 0 ≡ b → ⊥) → among b (drop i l) ≡ among b (drop (i + 1) l)
  unfolding among
  among_behind h e = rw (drop-cons l i 0 h, ne_eqb b (get_or l i 0) (λ q. e (cc)), add-one)

  pub among_end : length l ≤ i → among b (drop i l) ≡ false
  unfolding among
  among_end h = rw (drop_of_length-le l h)
