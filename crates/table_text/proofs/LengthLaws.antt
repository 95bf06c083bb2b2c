-- The lengths of a set one by one, and what is left of their text. Assumes nothing.
use Prim.Native.Nat.{ℕ, zero, suc, ◌+◌, ◌-◌, ◌*◌, ◌%◌, ◌^◌, ◌<◌}
use native.Mathlib.Numerals.{add-one}
use native.Mathlib.Omega.{arith}
use borrow.Author.Tests.{eq-eqb, ne_eqb}
use mathlib.Core.Path.{◌≡◌, refl, ◌∙◌}
use mathlib.Core.Bool.{true, false}
use mathlib.Core.List.{List, [], ◌∷◌, ◌++◌}
use lib.Pow.{shl_exact}
use Rattle.ground.specs.Rooms.{Put, decimal}
use Rattle.table_text.specs.Texts.{has, has_before, first_part, length_part, length_parts}

pub has_less : (set n : ℕ) → 0 < n → has set (n - 1) ≡ has_before set n
unfolding has_before
has_less set zero h = absurd (omega arith)
has_less set (suc n) h = let e : suc n - 1 ≡ n = omega arith in rw e

pub parts_next : (set n : ℕ) → n < 32 → length_parts set n (32 - n) ≡ length_part set n ++ length_parts set (n + 1) (32 - (n + 1))
unfolding length_parts
parts_next set n h =
    let e : 32 - n ≡ suc (32 - suc n) = omega arith in
    rw (e, add-one)

pub parts_end : (set n : ℕ) → n ≡ 32 → length_parts set n (32 - n) ≡ []
unfolding length_parts
parts_end set n h = let e : 32 - n ≡ 0 = omega arith in rw e

-- the shift of 1 stays within a u32
pub shifted : (n : ℕ) → n < 32 → 1 * 2 ^ n % 4294967296 ≡ 2 ^ n
shifted n h = let e : 1 * 2 ^ n ≡ 2 ^ n = omega arith in shl_exact {a = 1} 1 n 32 (omega arith) (omega arith) ∙ e

module _ (set n : ℕ) (h : n < 32) where
  pub first_alone : set % (1 * 2 ^ n % 4294967296) ≡ 0 → first_part set n ≡ decimal n
  unfolding first_part
  first_alone e = rw (eq-eqb _ 0 (rw (shifted n h) at e))

  pub first_more : (set % (1 * 2 ^ n % 4294967296) ≡ 0 → ⊥) → first_part set n ≡ 0x2C ∷ decimal n
  unfolding first_part
  first_more e = rw (ne_eqb _ 0 (rw (shifted n h) at e))

-- what a length adds, by its case
module _ (set n : ℕ) where
  pub part_none : has set n ≡ false → length_part set n ≡ []
  unfolding length_part
  part_none h = rw h

  pub part_first : has set n ≡ true → has_before set n ≡ false → length_part set n ≡ first_part set n
  unfolding length_part
  part_first h b = rw (h, b)

  pub part_inside : has set n ≡ true → has_before set n ≡ true → has set (n + 1) ≡ true → length_part set n ≡ []
  unfolding length_part
  part_inside h b a = rw (h, b, a)

  pub part_last : has set n ≡ true → has_before set n ≡ true → has set (n + 1) ≡ false → length_part set n ≡ 0x2D ∷ decimal n
  unfolding length_part
  part_last h b a = rw (h, b, a)

-- nothing put
pub put_none : {room bytes : List ℕ} {at : ℕ} → bytes ≡ [] → Put room at bytes room at
put_none e = rw e (record { stored = refl; place = omega arith })
