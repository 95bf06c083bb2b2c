-- The sums of a card with three objects alone are the one of their group. Assumes nothing.
use Prim.Native.Nat.{ℕ}
use mathlib.Core.Path.{◌≡◌, refl, ◌∙◌}
use mathlib.Core.Bool.{Bool, true, false, ◌&&◌}
use mathlib.Core.List.{List}
use lib.Dec.{eqb}
use Rattle.card.specs.Refusals.{none, gate}
use Rattle.card.specs.Rules.{sum_fits, names_fit, town_fits}
use Rattle.card.specs.Sums.{group_refusal, sums_refusal}
use Rattle.choosing.specs.declared.Three.{Three}
use Rattle.choosing.specs.Choices.{placed, sum_holds}

sums_number : (place : ℕ → ℕ) (ns : List ℕ) → eqb (sums_refusal place ns).number 0 ≡ (names_fit ns && town_fits ns)
unfolding sums_refusal gate
sums_number place ns = go (names_fit ns) (town_fits ns)
  where
    go : (p q : Bool) → eqb (gate p (group_refusal place ns 6) (gate q (group_refusal place ns 12) none)).number 0 ≡ (p && q)
    go true true = refl
    go true false = refl
    go false q = refl

and_true : (q : Bool) → (q && true) ≡ q
and_true true = refl
and_true false = refl

placed_sums : (names : Bool) (t : Three) → (names_fit (placed names t) && town_fits (placed names t)) ≡ sum_holds names t
unfolding placed sum_holds names_fit town_fits sum_fits
placed_sums true t = and_true _
placed_sums false t = refl

pub sums_of : (place : ℕ → ℕ) (names : Bool) (t : Three) → eqb (sums_refusal place (placed names t)).number 0 ≡ sum_holds names t
sums_of place names t = sums_number place (placed names t) ∙ placed_sums names t
