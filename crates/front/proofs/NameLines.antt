-- The names put part by part make the two name lines. Assumes nothing.
use mathlib.Core.Path.{◌≡◌, refl, ap, ◌∙◌}
use mathlib.Core.Bool.{false}
use mathlib.Core.List.{List, ◌++◌}
use Prim.Native.Nat.{ℕ, ◌+◌, ◌-◌, ◌≤◌, ◌<◌}
use native.Mathlib.Omega.{arith}
use borrow.Author.Tests.{le-leb, lt-leb}
use lib.Dec.{leb}
use lib.ListN.{length, replicate, length-append, length-replicate}
use lib.Seq.{length-sets}
use Rattle.ground.specs.Rooms.{room_with, behind_put, Put}
use Rattle.ground.proofs.Puts.{put_then}
use Rattle.card.specs.declared.Record.{Record}
use Rattle.card.specs.Content.{Content, content_of}
use Rattle.front.specs.Lines.{value, spaced, forenames, first_of, second_of, field, name_line}
use Rattle.front.specs.Placing.{behind, placed, field_put, names_put}
use Rattle.front.proofs.Spaced.{item, field_long, spaced_behind, spaced_long, behind_more, one_line, two_lines, names_of, name_lines_of}
use Rattle.front.proofs.Placed.{placed_long, fill_then, field_then, nothing, none_put, put_back}
use Rattle.front.proofs.Long.{first_short}

abbrev lines_put : Record → List ℕ
lines_put r = name_line (content_of r) ++ placed 28 (second_of (forenames (content_of r)) (value (content_of r) 9))

-- ---- the three forenames
behind_none : (v : List ℕ) → behind 0 v ≡ v
unfolding behind
behind_none v = refl

module _ (r : Record) (room : List ℕ) (at : ℕ) (short : length (forenames (content_of r)) ≤ 28) (wide : at + 28 ≤ length room) where
  fit : length (spaced (spaced (item r 6) (item r 7)) (item r 8)) ≤ 28
  fit = rw (names_of r) at short

  all-long : length (item r 6) + length (behind (length (item r 6)) (item r 7)) + length (behind (length (spaced (item r 6) (item r 7))) (item r 8)) ≤ 28
  all-long = omega (arith, fit, spaced_long (item r 6) (item r 7), spaced_long (spaced (item r 6) (item r 7)) (item r 8))

  pub fore_one : (length (item r 6) ≤ 28) × (at + length (behind 0 (item r 6)) ≤ length room)
  unfolding behind
  fore_one = (omega (arith, all-long), omega (arith, all-long))

  module _ {first : List ℕ} {p : ℕ} (one : Put room at (behind 0 (item r 6)) first p) where
    one-long : p - at ≡ length (item r 6)
    unfolding behind
    one-long = omega (arith, one.place)

    one_size : length first ≡ length room
    one_size = ap length one.stored ∙ length-sets room at (behind 0 (item r 6))

    pub fore_two : (length (item r 7) ≤ 28) × (p + length (behind (p - at) (item r 7)) ≤ length first)
    unfolding behind
    fore_two =
        let more = behind_more (length (item r 6)) (item r 7) in
        rw one-long (omega (arith, all-long), omega (arith, all-long, one.place, one_size))

    module _ {second : List ℕ} {q : ℕ} (two : Put first p (behind (p - at) (item r 7)) second q) where
      two-long : q - at ≡ length (spaced (item r 6) (item r 7))
      two-long = omega (arith, one-long, one.place, (rw one-long at two.place), spaced_long (item r 6) (item r 7))

      two_size : length second ≡ length room
      two_size = ap length two.stored ∙ length-sets first p (behind (p - at) (item r 7)) ∙ one_size

      pub fore_three : (length (item r 8) ≤ 28) × (q + length (behind (q - at) (item r 8)) ≤ length second)
      fore_three =
          let more = behind_more (length (spaced (item r 6) (item r 7))) (item r 8) in
          rw two-long (omega (arith, all-long), omega (arith, all-long, two-long, two_size, one.place, two.place, spaced_long (item r 6) (item r 7)))

      pub fore_all : {third : List ℕ} {s : ℕ} → Put second q (behind (q - at) (item r 8)) third s → Put room at (forenames (content_of r)) third s
      fore_all three =
          let title : behind 0 (item r 6) ≡ item r 6 = behind_none (item r 6) in
          let joint : (behind 0 (item r 6) ++ behind (p - at) (item r 7)) ++ behind (q - at) (item r 8) ≡ forenames (content_of r) =
          rw (title, one-long, two-long, names_of r, spaced_behind (spaced (item r 6) (item r 7)) (item r 8), ← spaced_behind (item r 6) (item r 7)) in
          rw joint at (put_then (put_then one two) three)

-- ---- both lines
module _ (r : Record) (room : List ℕ) (at : ℕ) (wide : at + 56 ≤ length room) {first : List ℕ} {p : ℕ} (names : Put room at (forenames (content_of r)) first p) where
  pub names_long : p - at ≡ length (forenames (content_of r))
  names_long = omega (arith, names.place)

  names-size : length first ≡ length room
  names-size = ap length names.stored ∙ length-sets room at (forenames (content_of r))

  pub family_held : length (spaced (forenames (content_of r)) (item r 9)) ≤ 28 → (length (item r 9) ≤ 28) × (p + length (behind (p - at) (item r 9)) ≤ length first)
  family_held h =
      let long = spaced_long (forenames (content_of r)) (item r 9) in
      let more = behind_more (length (forenames (content_of r))) (item r 9) in
      rw names_long (omega arith, omega (arith, names.place, names-size))

  pub family_end : {second : List ℕ} {q : ℕ} → length (spaced (forenames (content_of r)) (item r 9)) ≤ 28 → Put first p (behind (p - at) (item r 9)) second q → q ≤ at + 56
  family_end h two = omega (arith, names.place, (rw names_long at two.place), spaced_long (forenames (content_of r)) (item r 9))

  pub one_there : {second third : List ℕ} {q s : ℕ} → length (spaced (forenames (content_of r)) (item r 9)) ≤ 28 → Put first p (behind (p - at) (item r 9)) second q
      → s ≡ behind_put second q (replicate (at + 56 - q) 0x20) → third ≡ room_with second q (replicate (at + 56 - q) 0x20) → Put room at (lines_put r) third s
  one_there {q = q} h two e f =
      let joint : forenames (content_of r) ++ behind (p - at) (item r 9) ≡ spaced (forenames (content_of r)) (item r 9) = rw (names_long, spaced_behind (forenames (content_of r)) (item r 9)) in
      let both = rw joint at (put_then names two) in
      let left : at + 56 - q + length (spaced (forenames (content_of r)) (item r 9)) ≡ 56 = omega (arith, both.place) in
      let lines = one_line (forenames (content_of r)) (item r 9) (le-leb _ 28 h) (at + 56 - q) left ∙ name_lines_of r in
      rw lines at (fill_then (at + 56 - q) both e f (omega arith))

  pub two_there : {second third : List ℕ} {q s : ℕ} → length (forenames (content_of r)) ≤ 28 → 28 < length (spaced (forenames (content_of r)) (item r 9))
      → q ≡ behind_put first p (replicate (at + 28 - p) 0x20) → second ≡ room_with first p (replicate (at + 28 - p) 0x20)
      → s ≡ behind_put second q (field_put 28 (item r 9)) → third ≡ room_with second q (field_put 28 (item r 9)) → Put room at (lines_put r) third s
  two_there k h e f g i =
      let left : at + 28 - p ≡ 28 - length (forenames (content_of r)) = omega (arith, names.place) in
      let line = fill_then (at + 28 - p) names e f (omega arith) in
      let long = length-append (forenames (content_of r)) (replicate (at + 28 - p) 0x20) in
      let full = length-replicate {A = ℕ} (at + 28 - p) 0x20 in
      let lines = two_lines (forenames (content_of r)) (item r 9) (lt-leb _ 28 h) (at + 28 - p) left ∙ name_lines_of r in
      rw lines at (field_then 28 (item r 9) line g i (omega arith) (omega arith))

-- ---- the whole, and nothing
pub names_none : (c : Content) (room : List ℕ) (at : ℕ) → 28 < length (forenames c) → (at ≡ behind_put room at (names_put c)) × (room ≡ room_with room at (names_put c))
unfolding names_put
names_none c room at h = rw (lt-leb (length (forenames c)) 28 h) (nothing room at)

both_long : (c : Content) → length (forenames c) ≤ 28 → length (name_line c ++ placed 28 (second_of (forenames c) (value c 9))) ≡ 56
unfolding name_line
both_long c h =
    let first = field_long 28 (first_of (forenames c) (value c 9)) (first_short (forenames c) (value c 9) h) in
    let second = placed_long 28 (second_of (forenames c) (value c 9)) in
    omega (arith, length-append (field 28 (first_of (forenames c) (value c 9))) (placed 28 (second_of (forenames c) (value c 9))))

pub names_out : (c : Content) (room : List ℕ) (at : ℕ) → length (forenames c) ≤ 28 → leb (at + 56) (length room) ≡ false → (at ≡ behind_put room at (names_put c)) × (room ≡ room_with room at (names_put c))
unfolding names_put
names_out c room at h e = rw (le-leb (length (forenames c)) 28 h) (none_put room (name_line c ++ placed 28 (second_of (forenames c) (value c 9))) at 56 e (both_long c h))

pub names_in : (c : Content) {room after : List ℕ} {at s : ℕ} → length (forenames c) ≤ 28 → at + 56 ≤ length room
    → Put room at (name_line c ++ placed 28 (second_of (forenames c) (value c 9))) after s → (s ≡ behind_put room at (names_put c)) × (after ≡ room_with room at (names_put c))
unfolding names_put
names_in c h k put = rw (le-leb (length (forenames c)) 28 h) (put_back put (omega (arith, both_long c h)))
