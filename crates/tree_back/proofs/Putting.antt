-- One object put: the tests that it passes, and its bytes. Assumes nothing.
use mathlib.Core.Path.{◌≡◌, sym, ap, ◌∙◌}
use Prim.Native.Nat.{ℕ, suc, ◌+◌, ◌-◌, ◌≤◌, ◌<◌}
use native.Mathlib.Numerals.{add-one}
use native.Mathlib.Omega.{arith}
use mathlib.Core.Bool.{true, false}
use mathlib.Core.List.{List, ◌∷◌, ◌++◌}
use borrow.Author.Tests.{le-leb, lt-leb}
use lib.ListN.{length, take, set, length-append}
use lib.Seq.{sets, length-take-le}
use Rattle.lengths.specs.Lengths.{length_field}
use Rattle.ground.specs.Rooms.{Put}
use Rattle.std.specs.Prelude.{None}
use Rattle.tree_back.specs.Glue.{value_size, object_bytes, fits, step, step_of}
use Rattle.ground.proofs.Stores.{sets_then}

module _ (cap p t n : ℕ) (vs : List ℕ) where
  pub no_tag : 255 < t → fits cap p t n vs ≡ false
  unfolding fits
  no_tag h = rw (lt-leb t 255 h)

  pub no_values : t ≤ 255 → length vs < value_size t n → fits cap p t n vs ≡ false
  unfolding fits
  no_values h g = rw (le-leb t 255 h, lt-leb (value_size t n) (length vs) g)

  pub no_room : t ≤ 255 → value_size t n ≤ length vs → cap < p + 4 + value_size t n → fits cap p t n vs ≡ false
  unfolding fits
  no_room h g k = rw (le-leb t 255 h, le-leb (value_size t n) (length vs) g, lt-leb (p + 4 + value_size t n) cap k)

  pub fit : t ≤ 255 → value_size t n ≤ length vs → p + 4 + value_size t n ≤ cap → fits cap p t n vs ≡ true
  unfolding fits
  fit h g k = rw (le-leb t 255 h, le-leb (value_size t n) (length vs) g, le-leb (p + 4 + value_size t n) cap k)

  pub not_put : (l after : List ℕ) → fits cap p t n vs ≡ false → (None ≡ step_of cap p t n vs) × (fits cap p t n vs ≡ true → after ≡ sets l p (object_bytes t n vs))
  unfolding step_of
  not_put l after e = (rw e, λ h. let z : true ≡ false = sym h ∙ e in absurd (let y : ◌≡◌ {A = ℕ} 0 1 = cc in omega arith))

  pub bytes_size : value_size t n ≤ length vs → length (object_bytes t n vs) ≡ 1 + length (length_field n) + value_size t n
  unfolding object_bytes
  bytes_size h = simp (length-append, length-take-le (value_size t n) vs h) (omega arith)

  pub put : (l l2 after : List ℕ) (m start end : ℕ) → m ≡ value_size t n → t ≤ 255 → m ≤ length vs → p + 4 + m ≤ cap
      → Put (set l p t) (p + 1) (length_field n) l2 start → Put l2 start (take m vs) after end
      → (step m (end - p) ≡ step_of cap p t n vs) × (fits cap p t n vs ≡ true → after ≡ sets l p (object_bytes t n vs))
  unfolding step_of object_bytes
  put l l2 after m start end e h1 h2 h3 a b =
      let k : value_size t n ≤ length vs = omega arith in
      let z : length (take m vs) ≡ m = length-take-le m vs h2 in
      let s : end - p ≡ length (t ∷ (length_field n ++ take (value_size t n) vs)) = omega (arith, bytes_size k, a.place, b.place) in (
        rw (fit h1 k (omega arith), s, e),
        λ _.
            b.stored ∙ ap (λ (x : ℕ). sets l2 start (take x vs)) e
            ∙ sets_then (set l p t) (length_field n) (suc p) (take (value_size t n) vs) (a.stored ∙ ap (λ (x : ℕ). sets (set l p t) x (length_field n)) (add-one p)) (omega (arith, a.place)),
      )
