-- The forms of a length field, by the length. Assumes nothing.
use Prim.Native.Nat.{ℕ, ◌+◌, ◌-◌, ◌*◌, ◌/◌, ◌%◌, ◌≤◌, ◌<◌}
use native.Mathlib.Omega.{arith}
use borrow.Author.Tests.{le-leb, lt-leb, eq-eqb, ne_eqb}
use mathlib.Core.Path.{◌≡◌, refl}
use mathlib.Core.List.{List, [], ◌∷◌}
use lib.ListN.{length, get_or, take, drop, length-drop}
use lib.Seq.{take_all}
use Rattle.std.specs.Prelude.{Err}
use Rattle.lengths.specs.declared.FieldError.TheVariants.{Other, Cut, Long}
use Rattle.lengths.specs.Lengths.{length_field, read, behind81, behind82, length_read}

pub field_one : (n : ℕ) → n ≤ 127 → length_field n ≡ n ∷ []
unfolding length_field
field_one n h = rw (le-leb n 127 h)

pub field_two : (n : ℕ) → 127 < n → n ≤ 255 → length_field n ≡ 0x81 ∷ n ∷ []
unfolding length_field
field_two n h k = rw (lt-leb n 127 h, le-leb n 255 k)

pub field_three : (n : ℕ) → 255 < n → length_field n ≡ 0x82 ∷ n / 256 ∷ n % 256 ∷ []
unfolding length_field
field_three n h = rw (lt-leb n 127 (omega arith), lt-leb n 255 h)
