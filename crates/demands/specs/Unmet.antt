-- The first row that a content does not meet.
use Rattle.std.specs.Prelude.{ℕ, ◌+◌, List, ◌∷◌, length}
use Rattle.card.specs.declared.Refusal.{Refusal}
use Rattle.card.specs.Layout.{object}
use Rattle.card.specs.Rules.{Entry, RowMet, fault}
use Rattle.card.specs.Walk.{fault_at}

-- x is what the first row in card order that is not met is refused with, where the objects of the values stand from `at` on
pub data FirstUnmet : List Entry → ℕ → List (List ℕ) → Refusal → Type 0 where
  here : {r : Entry} {v : List ℕ} {rs : List Entry} {vs : List (List ℕ)} {at : ℕ}
      → (RowMet r.row v → ⊥) → FirstUnmet (r ∷ rs) at (v ∷ vs) (fault_at r at (fault r.row v))
  later : {r : Entry} {v : List ℕ} {rs : List Entry} {vs : List (List ℕ)} {at : ℕ} {x : Refusal}
      → RowMet r.row v → FirstUnmet rs (at + length (object r.tag v)) vs x → FirstUnmet (r ∷ rs) at (v ∷ vs) x
