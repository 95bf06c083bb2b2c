-- The filler's numbers, on both sides of its edges. Assumes nothing.
use Prim.Native.Nat.{ℕ, ◌+◌, ◌-◌, ◌≤◌, ◌<◌}
use native.Mathlib.Omega.{arith}
use native.Mathlib.Decide.{dec_le}
use borrow.Author.Tests.{le-leb, lt-leb, ne_eqb}
use mathlib.Core.Path.{◌≡◌, refl}
use lib.ListN.{length}
use Rattle.lengths.specs.Lengths.{length_field}
use Rattle.card.specs.Layout.{spaces, lasts}

-- the spaces of a filler, on both sides of its edge
pub spaces_below : (t : ℕ) → t ≤ 129 → spaces t ≡ t - 2
unfolding spaces
spaces_below t h = rw (le-leb t 129 h)

pub spaces_edge : (t : ℕ) → t ≡ 130 → spaces t ≡ 127
unfolding spaces
spaces_edge t h = rw h

pub spaces_above : (t : ℕ) → 130 < t → spaces t ≡ t - 3
unfolding spaces
spaces_above t h = rw (lt-leb t 129 (omega arith), ne_eqb t 130 (λ e. omega arith))

-- the filler's numbers add up: n spaces behind a length field of f bytes, and k last bytes
pub record Room (n f k t : ℕ) : Type 0 where
  pub small : n ≤ 255
  pub field : f ≤ 2
  pub some : 1 ≤ k
  pub two : k ≤ 2
  pub whole : 1 + f + n + k ≡ t + 1

pub room : (t : ℕ) → 2 ≤ t → t ≤ 255 → Room (spaces t) (length (length_field (spaces t))) (lasts t) t
unfolding spaces lasts length_field
room t h k =
    elim (dec_le t 129) [
      | yes a ↦
          let e₁ = le-leb t 129 a in
          let e₂ = ne_eqb t 130 (λ e. omega arith) in
          let e₃ = le-leb (t - 2) 127 (omega arith) in
          simp (e₁, e₂, e₃) (record { small = omega arith; field = omega arith; some = omega arith; two = omega arith; whole = omega arith })
      | no a ↦ elim (dec_le t 130) [
        | yes b ↦
            let e : t ≡ 130 = omega arith in
            rw e (record { small = omega arith; field = omega arith; some = omega arith; two = omega arith; whole = refl })
        | no b ↦
            let e₁ = lt-leb t 129 (omega arith) in
            let e₂ = ne_eqb t 130 (λ e. omega arith) in
            let e₃ = lt-leb (t - 3) 127 (omega arith) in
            let e₄ = le-leb (t - 3) 255 (omega arith) in
            simp (e₁, e₂, e₃, e₄) (record { small = omega arith; field = omega arith; some = omega arith; two = omega arith; whole = omega arith })
      ]
    ]
