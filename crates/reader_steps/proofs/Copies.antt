-- Lists copied out one element after the other, and the objects of a table of places. Assumes nothing.
use Prim.Native.Nat.{ℕ, zero, suc, ◌+◌, ◌-◌, ◌<◌}
use native.Mathlib.Nat.{le_of_lt}
use native.Mathlib.Numerals.{add-one}
use native.Mathlib.Omega.{arith}
use mathlib.Core.Path.{◌≡◌, refl, ap, ◌∙◌}
use mathlib.Core.List.{List, [], ◌∷◌, ◌++◌, append_assoc, map}
use lib.ListN.{length, get_or, take, drop, set, replicate, get_or-map}
use lib.Seq.{set_at, take-suc, length-take-le}
use Rattle.card.specs.declared.Object.{Object}
use Rattle.card.specs.Content.{object_of}
use Rattle.reader_steps.specs.Steps.{values_at}

pub map_take : {A B : Type 0} (f : A → B) (n : ℕ) (l : List A) → map f (take n l) ≡ take n (map f l)
map_take f zero l = refl
map_take f (suc n) [] = refl
map_take f (suc n) (x ∷ l) = ap (λ r. f x ∷ r) (map_take f n l)

pub map_drop : {A B : Type 0} (f : A → B) (n : ℕ) (l : List A) → map f (drop n l) ≡ drop n (map f l)
map_drop f zero l = refl
map_drop f (suc n) [] = refl
map_drop f (suc n) (x ∷ l) = map_drop f n l

-- the places that hold z already are n, and i elements are copied
abbrev pub copied : {A : Type 0} → List A → A → ℕ → ℕ → List A
copied xs z n i = take i xs ++ replicate (n - i) z

pub copied_more : {A : Type 0} (xs : List A) (d z : A) (n i : ℕ) → i < length xs → i < n → set (copied xs z n i) i (get_or xs i d) ≡ copied xs z n (i + 1)
copied_more xs d z n i h k =
    let one : n - i ≡ suc (n - suc i) = omega arith in
    rw (one, add-one, take-suc xs i d h, append_assoc)
    (set_at (take i xs) z (replicate (n - suc i) z) (get_or xs i d) i (length-take-le i xs (le_of_lt h)))

-- ---- the objects
abbrev pub absent : Object
absent = record { length = 0; bytes = replicate 28 0 }

-- ---- the values of a table
pub values_length : (s st ls : List ℕ) → length st ≡ length ls → length (values_at s st ls) ≡ length st
unfolding values_at
values_length s [] ls e = refl
values_length s (b ∷ st) [] e = absurd (omega arith)
values_length s (b ∷ st) (m ∷ ls) e = ap suc (values_length s st ls (omega arith))

pub value_at_lem : (s st ls : List ℕ) (k : ℕ) → length st ≡ length ls → get_or (values_at s st ls) k [] ≡ take (get_or ls k 0) (drop (get_or st k 0) s)
unfolding values_at
value_at_lem s [] [] k e = refl
value_at_lem s [] (m ∷ ls) k e = absurd (omega arith)
value_at_lem s (b ∷ st) [] k e = absurd (omega arith)
value_at_lem s (b ∷ st) (m ∷ ls) zero e = refl
value_at_lem s (b ∷ st) (m ∷ ls) (suc k) e = value_at_lem s st ls k (omega arith)

-- the object of row k's value, cut out of the bytes
pub object_of_lem : (s st ls : List ℕ) (k : ℕ) → length st ≡ length ls
    → get_or (map object_of (values_at s st ls)) k (object_of []) ≡ object_of (take (get_or st k 0 + get_or ls k 0 - get_or st k 0) (drop (get_or st k 0) s))
object_of_lem s st ls k e =
    let n : get_or st k 0 + get_or ls k 0 - get_or st k 0 ≡ get_or ls k 0 = omega arith in
    get_or-map object_of (values_at s st ls) k [] ∙ ap object_of (value_at_lem s st ls k e ∙ rw n)
