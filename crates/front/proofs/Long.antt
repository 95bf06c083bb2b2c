-- Each line of a content whose values have their places is 28 long, and is what the code puts; the lines fill a room of 112. Assumes nothing.
use mathlib.Core.Path.{◌≡◌, refl, ap, ◌∙◌}
use mathlib.Core.Bool.{Bool, true, false, cond}
use mathlib.Core.List.{List, [], ◌++◌}
use Prim.Native.Nat.{ℕ, ◌+◌, ◌≤◌}
use native.Mathlib.Omega.{arith}
use borrow.Author.Tests.{leb-true, le-leb}
use lib.ListN.{length, length-append, length-replicate}
use lib.Seq.{length-sets}
use Rattle.ground.specs.Rooms.{room_with, Put}
use Rattle.ground.proofs.Puts.{put_stored, put_then}
use Rattle.card.specs.Content.{Content}
use Rattle.front.specs.Lines.{value, addition_sign, status_shown, spaced, forenames, on_one_line, first_of, second_of, field, name_line, family_line, number_line, lines_of, end_to_end}
use Rattle.front.specs.Placing.{Fits, field_put, names_put, numbers_put}
use Rattle.front.proofs.Spaced.{blanks, field_long, lines_with, lines_without, run_whole}
use Rattle.front.proofs.Signs.{addition_short, status_short}
use Rattle.front.proofs.Placed.{placed_fits}

-- ---- each line has 28 places
pub first_short : (names family : List ℕ) → length names ≤ 28 → length (first_of names family) ≤ 28
unfolding first_of
first_short names family h = go (on_one_line names family) refl
  where
    go : (q : Bool) → on_one_line names family ≡ q → length (cond q (spaced names family) names) ≤ 28
    go true e = leb-true _ 28 e
    go false e = h

second_short : (names family : List ℕ) → length family ≤ 28 → length (second_of names family) ≤ 28
unfolding second_of
second_short names family h = go (on_one_line names family)
  where
    go : (q : Bool) → length (cond q [] family) ≤ 28
    go true = omega arith
    go false = h

module _ (c : Content) (f : Fits c) where
  pub name_long : length (name_line c) ≡ 28
  unfolding name_line
  name_long = field_long 28 _ (first_short (forenames c) (value c 9) f.names)

  pub family_long : length (family_line c) ≡ 28
  unfolding family_line
  family_long = field_long 28 _ (second_short (forenames c) (value c 9) (f.short 9 (omega arith)))

  pub number_long : length (number_line c) ≡ 28
  unfolding number_line
  number_long =
      let a = field_long 7 (value c 1) f.number in
      let b = field_long 12 (value c 3) f.insured in
      let d = field_long 4 (status_shown (value c 4)) (omega (arith, f.status, status_short (value c 4))) in
      let e = field_long 1 (addition_sign (value c 5)) (addition_short (value c 5)) in
      let g = field_long 4 (value c 15) f.validity in
      simp length-append (omega arith)

  -- ---- what is put is the lines
  pub names_put_lem : names_put c ≡ name_line c ++ family_line c
  unfolding names_put family_line
  names_put_lem = rw (le-leb (length (forenames c)) 28 f.names, placed_fits 28 (second_of (forenames c) (value c 9)) (second_short (forenames c) (value c 9) (f.short 9 (omega arith))))

  pub numbers_put_lem : numbers_put c ≡ number_line c
  unfolding numbers_put number_line
  numbers_put_lem =
      rw (
        placed_fits 7 (value c 1) f.number,
        placed_fits 12 (value c 3) f.insured,
        placed_fits 4 (status_shown (value c 4)) (omega (arith, f.status, status_short (value c 4))),
        placed_fits 4 (value c 15) f.validity,
      )

  pub fund_put : field_put 28 (value c 0) ≡ field 28 (value c 0)
  unfolding field_put
  fund_put = placed_fits 28 (value c 0) (f.short 0 (omega arith))

-- a run in its place of a room
run_at : {room after : List ℕ} (at : ℕ) (bytes put : List ℕ) (n : ℕ) → after ≡ room_with room at put → put ≡ bytes → length bytes ≡ n → at + n ≤ length room → Put room at bytes after (at + n)
run_at {room} at bytes put n e f h k = record { stored = put_stored room at bytes (omega arith) (rw f at e); place = omega arith }

same_size : {room after bytes : List ℕ} {at p : ℕ} → Put room at bytes after p → length after ≡ length room
same_size {room} {bytes = bytes} {at = at} p = ap length p.stored ∙ length-sets room at bytes

names_long : (c : Content) (f : Fits c) → length (name_line c ++ family_line c) ≡ 56
names_long c f = omega (arith, length-append (name_line c) (family_line c), name_long c f, family_long c f)

module _ (room first second : List ℕ) {third : List ℕ} (c : Content) (f : Fits c) (n : length room ≡ 112) where
  pub filled_with : first ≡ room_with room 0 (names_put c) → second ≡ room_with first 56 (field_put 28 (value c 0)) → third ≡ room_with second 84 (numbers_put c)
      → third ≡ end_to_end (lines_of true c)
  filled_with e g h =
      let a = run_at 0 (name_line c ++ family_line c) (names_put c) 56 e (names_put_lem c f) (names_long c f) (omega arith) in
      let b = run_at 56 (field 28 (value c 0)) (field_put 28 (value c 0)) 28 g (fund_put c f) (field_long 28 (value c 0) (f.short 0 (omega arith))) (omega (arith, same_size a)) in
      let d = run_at 84 (number_line c) (numbers_put c) 28 h (numbers_put_lem c f) (number_long c f) (omega (arith, same_size a, same_size b)) in
      run_whole (put_then a (put_then b d)) (omega arith) ∙ lines_with c

  pub filled_without : first ≡ room_with room 0 (blanks 28) → second ≡ room_with first 28 (names_put c) → third ≡ room_with second 84 (numbers_put c)
      → third ≡ end_to_end (lines_of false c)
  filled_without e g h =
      let a = run_at 0 (blanks 28) (blanks 28) 28 e refl (length-replicate {A = ℕ} 28 0x20) (omega arith) in
      let b = run_at 28 (name_line c ++ family_line c) (names_put c) 56 g (names_put_lem c f) (names_long c f) (omega (arith, same_size a)) in
      let d = run_at 84 (number_line c) (numbers_put c) 28 h (numbers_put_lem c f) (number_long c f) (omega (arith, same_size a, same_size b)) in
      run_whole (put_then a (put_then b d)) (omega arith) ∙ lines_without c
