-- A range of lengths one by one, and a rule's word looked for. Assumes nothing.
use Prim.Native.Nat.{ℕ, suc, ◌+◌, ◌-◌, ◌*◌, ◌%◌, ◌^◌, ◌≤◌, ◌<◌}
use native.Mathlib.Numerals.{add-one}
use native.Mathlib.Omega.{arith}
use borrow.Author.Tests.{ltb-false}
use mathlib.Core.Path.{◌≡◌, refl}
use mathlib.Core.Bool.{Bool, true, false, cond}
use mathlib.Core.List.{List}
use lib.Bits.{bit_or}
use lib.Dec.{ltb}
use Rattle.ground.specs.Lists.{same_list}
use Rattle.table_text.specs.Vocabulary.{word_of}
use Rattle.table_text.proofs.LengthLaws.{shifted}
use Rattle.table_take.specs.LengthSets.{with_range, first_of, item_fault}
use Rattle.table_take.specs.Words.{rule_found}

module _ (set n last : ℕ) where
  pub range_next : n ≤ last → last < 32 → with_range (bit_or set (1 * 2 ^ n % 4294967296)) (n + 1) (last + 1 - (n + 1)) ≡ with_range set n (last + 1 - n)
  unfolding with_range
  range_next h l =
      let e : last + 1 - n ≡ suc (last + 1 - suc n) = omega arith in
      let s = shifted n (omega arith) in
      rw (s, e, add-one n)

  pub range_end : last < n → with_range set n (last + 1 - n) ≡ set
  unfolding with_range
  range_end h = let e : last + 1 - n ≡ 0 = omega arith in rw e

-- a number that ends an item well is a length
pub item_length : (from n : ℕ) → item_fault from n ≡ 0 → n < 32
unfolding item_fault
item_length from n e = go (ltb 256 n) refl (ltb 31 n) refl e
  where
    go : (q : Bool) → ltb 256 n ≡ q → (r : Bool) → ltb 31 n ≡ r → ◌≡◌ {A = ℕ} (cond q 7 (cond r 8 (cond (ltb n (first_of from n)) 9 0))) 0 → n < 32
    go true p r f z = absurd (omega arith)
    go false p true f z = absurd (omega arith)
    go false p false f z = omega (arith, ltb-false 31 n f)

module _ (w : List ℕ) (n : ℕ) where
  pub found_stop : n < 27 → same_list w (word_of n) ≡ true → rule_found w n (27 - n) ≡ n
  unfolding rule_found
  found_stop h t = let e : 27 - n ≡ suc (27 - suc n) = omega arith in rw (e, t)

  pub found_next : n < 27 → same_list w (word_of n) ≡ false → rule_found w n (27 - n) ≡ rule_found w (n + 1) (27 - (n + 1))
  unfolding rule_found
  found_next h t = let e : 27 - n ≡ suc (27 - suc n) = omega arith in rw (e, t, add-one)

  pub found_end : n ≡ 27 → rule_found w n (27 - n) ≡ n
  unfolding rule_found
  found_end h = let e : 27 - n ≡ 0 = omega arith in rw e
