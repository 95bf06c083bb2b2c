-- A loop that stores what a function makes of each index. Assumes nothing.
use Prim.Native.Nat.{ℕ, ◌+◌, ◌<◌}
use native.Mathlib.Numerals.{add-one}
use native.Mathlib.Omega.{arith}
use mathlib.Core.Path.{◌≡◌, sym, ◌∙◌}
use mathlib.Core.List.{List}
use lib.ListN.{length, take, set}
use lib.Seq.{take-suc-set, take_all}
use Rattle.card_text.specs.Records.{listed}

module _ {A : Type 0} (f : ℕ → A) (xs : List A) (k : ℕ) (done : take k xs ≡ listed k f) where
  pub listed_more : {x : A} → k < length xs → x ≡ f k → take (k + 1) (set xs k x) ≡ listed (k + 1) f
  unfolding listed
  listed_more h e = rw (e, add-one, take-suc-set, done)

  pub listed_all : k ≡ length xs → xs ≡ listed k f
  listed_all h = sym (take_all k xs (omega arith)) ∙ done
