-- The runs of stores of a filler make it. Assumes nothing.
use mathlib.Core.Path.{◌≡◌, ap, ◌∙◌}
use mathlib.Core.List.{List, ◌∷◌, ◌++◌, append_assoc}
use Prim.Native.Nat.{ℕ, ◌+◌, ◌-◌, ◌≤◌}
use native.Mathlib.Omega.{arith}
use lib.ListN.{length, set, replicate, length-append, length-replicate}
use lib.Seq.{sets}
use Rattle.lengths.specs.Lengths.{length_field}
use Rattle.card.specs.Layout.{spaces, lasts, filler}
use Rattle.card.proofs.Room.{room}
use Rattle.ground.proofs.Stores.{sets_then, sets_whole}

-- where the spaces begin and end, once the length is written
pub record Placed (t n start : ℕ) : Type 0 where
  pub n_is : n ≡ spaces t
  pub start_is : start ≡ 1 + length (length_field n)
  pub ends : start + n + lasts t ≡ t + 1

pub placed : (t n start : ℕ) → 2 ≤ t → t ≤ 255 → n ≡ spaces t → start ≡ 1 + length (length_field n) → Placed t n start
placed t n start h k e f =
    let r = room t h k in
    let g = ap (λ (x : ℕ). length (length_field x)) e in
    record { n_is = e; start_is = f; ends = omega (arith, r.whole) }

pub filled : (p : List ℕ) {l₁ l₂ l₃ : List ℕ} (t n start end last : ℕ) → Placed t n start → length p ≡ t + 1 → end ≡ start + n
    → l₁ ≡ sets (set p 0 0xC0) 1 (length_field n) → l₂ ≡ sets l₁ start (replicate n 0x20) → l₃ ≡ sets l₂ end (replicate (length p - end) last)
    → l₃ ≡ filler t last
unfolding filler
filled p t n start end last r hp he e₁ e₂ e₃ =
    let a₂ : length p - end ≡ lasts t = omega (arith, r.ends) in
    let x₁ : List ℕ = 0xC0 ∷ length_field n in
    let x₂ : List ℕ = x₁ ++ replicate n 0x20 in
    let x₃ : List ℕ = x₂ ++ replicate (lasts t) last in
    let g₁ : start ≡ 0 + length x₁ = omega (arith, r.start_is) in
    let g₂ : end ≡ 0 + length x₂ = simp (length-append, length-replicate) (omega arith) in
    let g₃ : length x₃ ≡ length p = simp (length-append, length-replicate) (omega (arith, r.ends)) in
    let d₂ = e₂ ∙ sets_then p x₁ 0 (replicate n 0x20) e₁ g₁ in
    let d₃ = rw a₂ at e₃ ∙ sets_then p x₂ 0 (replicate (lasts t) last) d₂ g₂ in
    let same : x₃ ≡ filler t last =
    ap (λ (k : ℕ). (0xC0 ∷ length_field k) ++ replicate k 0x20 ++ replicate (lasts t) last) r.n_is
    ∙ ap (λ (y : List ℕ). 0xC0 ∷ y) (append_assoc (length_field (spaces t)) (replicate (spaces t) 0x20) (replicate (lasts t) last)) in
    d₃ ∙ sets_whole p x₃ g₃ ∙ same
