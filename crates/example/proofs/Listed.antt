-- A loop that stores what a function makes of each index. Assumes nothing.
use Prim.Native.Nat.{ℕ, ◌+◌, ◌<◌}
use native.Mathlib.Numerals.{add-one}
use native.Mathlib.Omega.{arith}
use mathlib.Core.Path.{◌≡◌, sym, ◌∙◌}
use mathlib.Core.List.{List, [], ◌∷◌, map, map-append}
use lib.ListN.{length, take, set}
use lib.Seq.{take-suc-set, take_all}
use Rattle.example.specs.Cards.{listed}

module _ {A B : Type 0} (g : A → B) (f : ℕ → A) (xs : List B) (k : ℕ) (done : take k xs ≡ map g (listed k f)) where
  pub listed_more : {x : B} → k < length xs → x ≡ g (f k) → take (k + 1) (set xs k x) ≡ map g (listed (k + 1) f)
  unfolding listed
  listed_more h e = rw (e, add-one, take-suc-set, done) (sym (map-append g (listed k f) (f k ∷ [])))

  pub listed_all : k ≡ length xs → xs ≡ map g (listed k f)
  listed_all h = sym (take_all k xs (omega arith)) ∙ done
