-- What can be wrong with some bytes, each fault by itself, at any object that can be reached.
use Rattle.std.specs.Prelude.{◌≡◌, ℕ, suc, ◌+◌, ◌-◌, ◌≤◌, ◌<◌, true, cond, List, ◌∷◌, eqb, length, drop, take}
use Rattle.lengths.specs.Lengths.{read, length_read, length_told}
use Rattle.tree.specs.Heads.{bad_tag, is_list}

-- depth, address and bytes of a list of objects; the number and the place of a fault. A field of u bytes says the length n
pub data Fault : ℕ → ℕ → List ℕ → ℕ → ℕ → Type 0 where
  bad-tag : {d at b y q : ℕ} {r : List ℕ} → bad_tag b ≡ true → y ≡ 50 → q ≡ at → Fault d at (b ∷ r) y q
  too-deep : {d at b y q : ℕ} {r : List ℕ} → 6 < d → y ≡ 53 → q ≡ at → Fault d at (b ∷ r) y q
  bad-field : {d at b y q : ℕ} {r : List ℕ} → ((length_told (length_read r)).number ≡ 0 → ⊥) → y ≡ 51 → q ≡ at + 1 → Fault d at (b ∷ r) y q
  too_long : {d at b y q : ℕ} {r : List ℕ} (n u : ℕ) → length_read r ≡ read n u → length (b ∷ r) - (u + 1) < n → y ≡ 52 → q ≡ at → Fault d at (b ∷ r) y q
  inner : {d at b y q : ℕ} {r : List ℕ} (n u : ℕ) → length_read r ≡ read n u → n ≤ length (b ∷ r) - (u + 1) → is_list b ≡ true
      → Fault (suc d) (at + (u + 1)) (take n (drop (u + 1) (b ∷ r))) y q → Fault d at (b ∷ r) y q
  later : {d at b y q : ℕ} {r : List ℕ} (n u : ℕ) → length_read r ≡ read n u → n ≤ length (b ∷ r) - (u + 1)
      → Fault d (at + (u + 1 + n)) (drop (u + 1 + n) (b ∷ r)) y q → Fault d at (b ∷ r) y q

-- at one address: 51 before 50 before 53 before 52
abbrev pub rank : ℕ → ℕ
rank x = cond (eqb x 51) 0 (cond (eqb x 50) 1 (cond (eqb x 53) 2 3))

-- the fault x at p comes first: no higher address, and at the same address no higher rank
pub record Before (x p y q : ℕ) : Type 0 where
  pub lower : p ≤ q
  pub first : q ≤ p → rank x ≤ rank y
