-- Addresses 0 to 29, run of stores by run of stores. Assumes nothing.
use mathlib.Core.Path.{◌≡◌, refl, ap, ◌∙◌}
use mathlib.Core.List.{List, [], ◌∷◌, ◌++◌, append_assoc}
use Prim.Native.Nat.{ℕ, ◌+◌}
use native.Mathlib.Omega.{arith}
use lib.ListN.{length, get_or, take, drop, set, length-append, drop_of_length-le}
use lib.Seq.{sets, length-take-le, drop-cons}
use Rattle.card.specs.Layout.{identifier, head}
use Rattle.ground.proofs.Stores.{sets_then}

-- the twelfth free byte is the last
last_free : (free : List ℕ) → length free ≡ 12 → drop 11 free ≡ get_or free 11 0 ∷ []
last_free free h = drop-cons free 11 0 (omega arith) ∙ ap (λ (t : List ℕ). get_or free 11 0 ∷ t) (drop_of_length-le free {i = 12} (omega arith))

pub head_long : (first : ℕ) (free : List ℕ) → length free ≡ 12 → length (head first free) ≡ 30
unfolding head identifier
head_long first free h =
    let t = length-take-le 11 free (omega arith) in
    simp (length-append, last_free free h) (omega arith)

pub headed : (b : List ℕ) {l₁ l₂ l₃ l₄ l₅ : List ℕ} (first : ℕ) (free : List ℕ) → length free ≡ 12
    → l₁ ≡ sets (set b 0 first) 1 (0x13 ∷ 0x10 ∷ 0x91 ∷ 0x46 ∷ 0x0B ∷ []) → l₂ ≡ sets l₁ 6 (take 11 free) → l₃ ≡ sets l₂ 17 (0x61 ∷ 0x0B ∷ 0x4F ∷ 0x06 ∷ [])
    → l₄ ≡ sets l₃ 21 identifier → l₅ ≡ sets l₄ 27 (0x53 ∷ 0x01 ∷ []) → set l₅ 29 (get_or free 11 0) ≡ sets b 0 (head first free)
unfolding head identifier
headed b first free h e₁ e₂ e₃ e₄ e₅ =
    let t = length-take-le 11 free (omega arith) in
    let x₁ : List ℕ = first ∷ 0x13 ∷ 0x10 ∷ 0x91 ∷ 0x46 ∷ 0x0B ∷ [] in
    let x₂ : List ℕ = x₁ ++ take 11 free in
    let x₃ : List ℕ = x₂ ++ (0x61 ∷ 0x0B ∷ 0x4F ∷ 0x06 ∷ []) in
    let x₄ : List ℕ = x₃ ++ identifier in
    let x₅ : List ℕ = x₄ ++ (0x53 ∷ 0x01 ∷ []) in
    let g₃ : 17 ≡ 0 + length x₂ = simp length-append (omega arith) in
    let g₄ : 21 ≡ 0 + length x₃ = simp length-append (omega arith) in
    let g₅ : 27 ≡ 0 + length x₄ = simp length-append (omega arith) in
    let g₆ : 29 ≡ 0 + length x₅ = simp length-append (omega arith) in
    let d₂ = e₂ ∙ sets_then b x₁ 0 (take 11 free) e₁ refl in
    let d₃ = e₃ ∙ sets_then b x₂ 0 (0x61 ∷ 0x0B ∷ 0x4F ∷ 0x06 ∷ []) d₂ g₃ in
    let d₄ = e₄ ∙ sets_then b x₃ 0 identifier d₃ g₄ in
    let d₅ = e₅ ∙ sets_then b x₄ 0 (0x53 ∷ 0x01 ∷ []) d₄ g₅ in
    let same : x₅ ++ (get_or free 11 0 ∷ []) ≡ head first free = simp (append_assoc, last_free free h) in
    sets_then b x₅ 0 (get_or free 11 0 ∷ []) d₅ g₆ ∙ ap (sets b 0) same
