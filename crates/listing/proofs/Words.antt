-- Words and lines by their cases, and how long they are. Assumes nothing.
use mathlib.Core.Path.{◌≡◌, refl, ap}
use mathlib.Core.List.{List, [], ◌∷◌, ◌++◌}
use Prim.Native.Nat.{ℕ, zero, suc, ◌+◌, ◌≤◌}
use native.Mathlib.Omega.{arith}
use lib.ListN.{length, take, length-append}
use Rattle.card.specs.declared.Refusal.{Refusal}
use Rattle.listing.specs.Listing.{object_line, cause, ends}
use Rattle.ground.specs.Rooms.{hex}
use Rattle.ground.proofs.Words.{decimal_short}

pub cause_short : (x : Refusal) → length (cause x) ≤ 11
unfolding cause hex
cause_short x = simp length-append (omega (arith, decimal_short x.number, decimal_short x.place))

pub ends_short : (x : Refusal) → length (ends x) ≤ 9
unfolding ends
ends_short x = simp length-append (omega (arith, decimal_short x.shortest, decimal_short x.longest))

pub line_none : (tag : ℕ) (v : List ℕ) → length v ≡ 0 → object_line tag v ≡ []
unfolding object_line
line_none tag [] e = refl
line_none tag (b ∷ v) e = absurd (omega arith)

pub line_some : (tag : ℕ) (v : List ℕ) → (length v ≡ 0 → ⊥) → object_line tag v ≡ hex tag ++ ((0x20 ∷ []) ++ (v ++ (0x0A ∷ [])))
unfolding object_line
line_some tag [] h = absurd (h refl)
line_some tag (b ∷ v) h = refl

pub line_short : (tag : ℕ) (v : List ℕ) → length (object_line tag v) ≤ length v + 4
unfolding object_line hex
line_short tag [] = omega arith
line_short tag (b ∷ v) = simp length-append (omega arith)

-- taking as many as a part has gives the part
pub take_part : (n : ℕ) (l : List ℕ) → take (length (take n l)) l ≡ take n l
take_part zero l = refl
take_part (suc n) [] = refl
take_part (suc n) (x ∷ l) = ap (λ (t : List ℕ). x ∷ t) (take_part n l)
