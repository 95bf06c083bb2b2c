-- The parts of a line by the tests of the code. Assumes nothing.
use Prim.Native.Nat.{ℕ, ◌+◌, ◌-◌, ◌≤◌, ◌<◌}
use native.Mathlib.Omega.{arith}
use borrow.Author.Tests.{eq-eqb, ne_eqb, lt-ltb, le-ltb}
use mathlib.Core.Path.{◌≡◌, sym, ap, ◌∙◌}
use mathlib.Core.List.{List, []}
use lib.Dec.{eqb}
use lib.ListN.{length, get_or, take, drop, drop_of_length-le, get_or-eq_default}
use Rattle.ground.specs.Lists.{leading}
use Rattle.ground.proofs.Pieces.{to_end}
use Rattle.card_lines.specs.Lines.{before, without_return, without_blanks}
use Rattle.card_lines.specs.Keys.{behind_blank, behind_colon, key_named, key_trimmed}

module _ (l : List ℕ) where
  past-last : length l ≡ 0 → get_or l (length l - 1) 0 ≡ 0
  past-last h = let k : length l ≤ length l - 1 = omega arith in get_or-eq_default l 0 k

  pub return_none : length l ≡ 0 → l ≡ without_return l
  unfolding without_return
  return_none h = rw (past-last h)

  pub return_last : get_or l (length l - 1) 0 ≡ 0x0D → take (length l - 1 - 0) l ≡ without_return l
  unfolding without_return
  return_last h = let z : length l - 1 - 0 ≡ length l - 1 = omega arith in rw (z, eq-eqb (get_or l (length l - 1) 0) 0x0D h)

  pub return_other : (get_or l (length l - 1) 0 ≡ 0x0D → ⊥) → l ≡ without_return l
  unfolding without_return
  return_other h = rw (ne_eqb (get_or l (length l - 1) 0) 0x0D h)

  pub blanks_off : (n : ℕ) → n ≡ leading (eqb 0x20) l → take (length l - n) (drop n l) ≡ without_blanks l
  unfolding without_blanks
  blanks_off n e = to_end l n ∙ ap (λ (k : ℕ). drop k l) e

  pub blank_none : length l ≡ 0 → l ≡ behind_blank l
  unfolding behind_blank
  blank_none h = let k : length l ≤ 0 = omega arith in rw (get_or-eq_default l 0 k)

  pub blank_first : get_or l 0 0 ≡ 0x20 → take (length l - 1) (drop 1 l) ≡ behind_blank l
  unfolding behind_blank
  blank_first h = to_end l 1 ∙ rw (eq-eqb (get_or l 0 0) 0x20 h)

  pub blank_other : (get_or l 0 0 ≡ 0x20 → ⊥) → l ≡ behind_blank l
  unfolding behind_blank
  blank_other h = rw (ne_eqb (get_or l 0 0) 0x20 h)

  -- the first colon, as `find` tells it
  module _ (n : ℕ) (is : n ≡ 0 + before 0x3A (drop 0 l)) where
    here : n ≡ before 0x3A l
    here = omega (arith, is)

    pub colon_none : length l ≤ n → [] ≡ behind_colon l
    unfolding behind_colon
    colon_none h = let k : length l ≤ before 0x3A l + 1 = omega (arith, here) in sym (drop_of_length-le l k)

    pub colon_there : take (length l - (n + 1)) (drop (n + 1) l) ≡ behind_colon l
    unfolding behind_colon
    colon_there = to_end l (n + 1) ∙ ap (λ (k : ℕ). drop (k + 1) l) here

    module _ (some : length l ≡ 0 → ⊥) (sign : get_or l 0 0 ≡ 0x23 → ⊥) where
      pub key_none : length l ≤ n → 20 ≡ key_trimmed l
      unfolding key_trimmed
      key_none h =
          let k : length l ≤ before 0x3A l = omega (arith, here) in
          rw (ne_eqb (length l) 0 some, ne_eqb (get_or l 0 0) 0x23 sign, le-ltb (before 0x3A l) (length l) k)

      pub key_there : n < length l → key_named (take (n - 0) l) ≡ key_trimmed l
      unfolding key_trimmed
      key_there h =
          let k : before 0x3A l < length l = omega (arith, here) in
          let z : n - 0 ≡ before 0x3A l = omega (arith, here) in
          rw (ne_eqb (length l) 0 some, ne_eqb (get_or l 0 0) 0x23 sign, lt-ltb (before 0x3A l) (length l) k, z)

  pub key_blank : length l ≡ 0 → 21 ≡ key_trimmed l
  unfolding key_trimmed
  key_blank h = rw (eq-eqb (length l) 0 h)

  pub key_remark : (length l ≡ 0 → ⊥) → get_or l 0 0 ≡ 0x23 → 21 ≡ key_trimmed l
  unfolding key_trimmed
  key_remark some h = rw (ne_eqb (length l) 0 some, eq-eqb (get_or l 0 0) 0x23 h)
