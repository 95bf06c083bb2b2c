-- A list filled by its index: what stands below i is the head of the whole. Assumes nothing.
use Prim.Native.Nat.{ℕ, ◌+◌, ◌<◌}
use native.Mathlib.Numerals.{add-one}
use native.Mathlib.Omega.{arith}
use mathlib.Core.Path.{◌≡◌, sym, ◌∙◌}
use mathlib.Core.List.{List}
use lib.ListN.{length, get_or, take, set}
use lib.Seq.{take-suc, take-suc-set, take_all}

-- a loop that stores at i the i-th element of a list: one turn, and its end
module _ {A : Type 0} (whole xs : List A) (i : ℕ) (done : take i xs ≡ take i whole) where
  pub stored_next : (d x : A) → i < length xs → i < length whole → x ≡ get_or whole i d → take (i + 1) (set xs i x) ≡ take (i + 1) whole
  stored_next d x h k e = rw (add-one, take-suc-set, take-suc whole i d k, done, e)

  pub stored_end : i ≡ length xs → i ≡ length whole → xs ≡ whole
  stored_end h k = sym (take_all i xs (omega arith)) ∙ done ∙ take_all i whole (omega arith)
