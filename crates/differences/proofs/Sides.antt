-- Two lists side by side, from the i-th pair on, and how many entries they have. Assumes nothing.
use mathlib.Core.Path.{◌≡◌}
use Prim.Native.Nat.{ℕ, ◌+◌, ◌≤◌, ◌<◌}
use native.Mathlib.Numerals.{add-one}
use native.Mathlib.Omega.{arith}
use mathlib.Core.List.{List, [], ◌∷◌, ◌++◌}
use lib.ListN.{length, drop, get_or, length-append, drop_of_length-le}
use lib.Seq.{drop-cons}
use Rattle.differences.specs.Differences.{Difference, along}

module _ {A : Type 0} (f : ℕ → A → A → List Difference) where
  -- the pairs from the i-th on are the i-th and those behind it
  pub along_next : (ns : List ℕ) (vs ws : List A) (a b : A) (i : ℕ) → i < length ns → i < length vs → i < length ws
      → along f (drop i ns) (drop i vs) (drop i ws) ≡ f (get_or ns i 0) (get_or vs i a) (get_or ws i b) ++ along f (drop (i + 1) ns) (drop (i + 1) vs) (drop (i + 1) ws)
  unfolding along
  along_next ns vs ws a b i n v w = simp (drop-cons ns i 0 n, drop-cons vs i a v, drop-cons ws i b w, add-one)

  pub along_end : (ns : List ℕ) (vs ws : List A) (i : ℕ) → length ns ≤ i → along f (drop i ns) vs ws ≡ []
  unfolding along
  along_end ns vs ws i h = rw (drop_of_length-le ns h)

  pub along_few : (ns : List ℕ) (vs ws : List A) → ((n : ℕ) (v w : A) → length (f n v w) ≤ 1) → length (along f ns vs ws) ≤ length ns
  unfolding along
  along_few [] vs ws h = omega arith
  along_few (n ∷ ns) [] ws h = omega arith
  along_few (n ∷ ns) (v ∷ vs) [] h = omega arith
  along_few (n ∷ ns) (v ∷ vs) (w ∷ ws) h = rw length-append (omega (arith, h n v w, along_few ns vs ws h))
