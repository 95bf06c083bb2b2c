-- The loop from the code to UTF-8: what is spelled and what is left make the whole. Assumes nothing.
use Prim.Native.Nat.{ℕ, zero, suc, ◌+◌, ◌-◌, ◌≤◌, ◌<◌}
use native.Mathlib.Numerals.{add-one}
use native.Mathlib.Omega.{arith}
use borrow.Author.Tests.{le-leb, lt-leb, leb-true, leb-false}
use mathlib.Core.Path.{◌≡◌, refl, sym, ap, ◌∙◌}
use mathlib.Core.Bool.{Bool, true, false, cond, ◌&&◌}
use mathlib.Core.List.{List, [], ◌∷◌, ◌++◌, append_assoc, append-nil}
use lib.Dec.{leb}
use lib.ListN.{length, length-append, get_or, take, drop, drop_of_length-le}
use lib.Seq.{sets, length-sets, take-suc, drop-cons, length-take-le}
use Rattle.ground.specs.Rooms.{Put, behind_put, room_with}
use Rattle.ground.proofs.Lists.{true_false}
use Rattle.ground.proofs.Stores.{sets_then}
use Rattle.ground.proofs.Puts.{put_out}
use Rattle.letters.specs.declared.Turned.{Turned}
use Rattle.letters.specs.Letters.{has_letter, letter, utf8}
use Rattle.letters.specs.Turning.{spelled, spelled_answer}
use Rattle.letters.proofs.Single.{letter_some}

pub utf8_append : (xs ys : List ℕ) → utf8 (xs ++ ys) ≡ utf8 xs ++ utf8 ys
unfolding utf8
utf8_append [] ys = refl
utf8_append (x ∷ xs) ys = rw (utf8_append xs ys) (sym (append_assoc (letter x) (utf8 xs) (utf8 ys)))

pub utf8_one : (b : ℕ) → utf8 (b ∷ []) ≡ letter b
unfolding utf8
utf8_one b = append-nil (letter b)

-- one more byte of a list that is spelled
pub utf8_more : (bs : List ℕ) (i : ℕ) → i < length bs → utf8 (take (i + 1) bs) ≡ utf8 (take i bs) ++ letter (get_or bs i 0)
utf8_more bs i h = rw (add-one, take-suc bs i 0 h, utf8_append, utf8_one)

-- ---- what was put, by the place behind it
module _ (room : List ℕ) (at : ℕ) (bytes : List ℕ) {behind : ℕ} (e : behind ≡ behind_put room at bytes) where
  pub not_put : behind ≡ at → 0 < length bytes → length room < at + length bytes
  unfolding behind_put
  not_put same some = go (leb (at + length bytes) (length room)) refl e
    where
      go : (q : Bool) → leb (at + length bytes) (length room) ≡ q → behind ≡ cond q (at + length bytes) at → length room < at + length bytes
      go true t f = absurd (omega arith)
      go false t f = omega (arith, leb-false (at + length bytes) (length room) t)

  pub was_put : (behind ≡ at → ⊥) → at + length bytes ≤ length room
  unfolding behind_put
  was_put moved = go (leb (at + length bytes) (length room)) refl e
    where
      go : (q : Bool) → leb (at + length bytes) (length room) ≡ q → behind ≡ cond q (at + length bytes) at → at + length bytes ≤ length room
      go true t f = leb-true _ _ t
      go false t f = absurd (moved f)

-- what was not put has changed nothing
pub stays : (room : List ℕ) (at : ℕ) (bytes : List ℕ) {after : List ℕ} → after ≡ room_with room at bytes → length room < at + length bytes → after ≡ room
stays room at bytes e h = e ∙ sym (put_out room at bytes h).1

-- ---- the loop
pub record Spelling (bytes room₀ room : List ℕ) (taken made : ℕ) : Type 0 where
  pub within : taken ≤ length bytes
  pub same : length room ≡ length room₀
  pub fits : made ≤ length room₀
  pub size : made ≡ length (utf8 (take taken bytes))
  pub left : spelled (length room₀) bytes ≡ take taken bytes ++ spelled (length room₀ - made) (drop taken bytes)
  pub stored : room ≡ sets room₀ 0 (utf8 (take taken bytes))

pub spelling_start : (bytes room : List ℕ) → Spelling bytes room room 0 0
unfolding utf8
spelling_start bytes room =
    let all : length room - 0 ≡ length room = omega arith in
    record { within = omega arith; same = refl; fits = omega arith; size = refl; left = rw all; stored = refl }

module _ {bytes room₀ room : List ℕ} {taken made : ℕ} (l : Spelling bytes room₀ room taken made) where
  pub spelling_next : (more : taken < length bytes) → has_letter (get_or bytes taken 0) ≡ true
      → {after : List ℕ} {behind : ℕ} → made + length (letter (get_or bytes taken 0)) ≤ length room → Put room made (letter (get_or bytes taken 0)) after behind
      → Spelling bytes room₀ after (taken + 1) behind
  unfolding spelled
  spelling_next more has {after} {behind} room_for put =
      let b = get_or bytes taken 0 in
      let grown : utf8 (take (taken + 1) bytes) ≡ utf8 (take taken bytes) ++ letter b = utf8_more bytes taken more in
      let enough : length (letter b) ≤ length room₀ - made = omega (arith, l.same) in
      let less : length room₀ - made - length (letter b) ≡ length room₀ - behind = omega (arith, put.place) in
      record {
        within = omega arith;
        same = ap length put.stored ∙ length-sets room made (letter b) ∙ l.same;
        fits = omega (arith, put.place, l.same);
        size = put.place ∙ ap (λ (n : ℕ). n + length (letter b)) l.size ∙ sym (length-append (utf8 (take taken bytes)) (letter b)) ∙ ap length (sym grown);
        left = l.left ∙ rw (drop-cons bytes taken 0 more, has, le-leb (length (letter b)) (length room₀ - made) enough, less, add-one, take-suc bytes taken 0 more)
            (sym (append_assoc (take taken bytes) (b ∷ []) _));
        stored = put.stored ∙ sets_then room₀ (utf8 (take taken bytes)) 0 (letter b) l.stored (omega (arith, l.size)) ∙ ap (sets room₀ 0) (sym grown);
      }

  pub spelling_end : spelled (length room₀ - made) (drop taken bytes) ≡ []
      → (◌≡◌ {A = Turned} (record { taken = taken; made = made }) (spelled_answer room₀ bytes)) × (room ≡ sets room₀ 0 (utf8 (spelled (length room₀) bytes)))
  spelling_end none =
      let whole : spelled (length room₀) bytes ≡ take taken bytes = l.left ∙ rw none (append-nil (take taken bytes)) in
      let count : taken ≡ length (take taken bytes) = sym (length-take-le taken bytes l.within) in
      (rw (whole, ← count, ← l.size), rw whole l.stored)

  -- it ends with the bytes, at a byte without a letter, or where the room does
  pub at_end : length bytes ≤ taken → spelled (length room₀ - made) (drop taken bytes) ≡ []
  unfolding spelled
  at_end h = rw (drop_of_length-le bytes h)

  pub without : taken < length bytes → has_letter (get_or bytes taken 0) ≡ false → spelled (length room₀ - made) (drop taken bytes) ≡ []
  unfolding spelled
  without more has = rw (drop-cons bytes taken 0 more, has)

  pub no_room : taken < length bytes → has_letter (get_or bytes taken 0) ≡ true → length room < made + length (letter (get_or bytes taken 0)) → spelled (length room₀ - made) (drop taken bytes) ≡ []
  unfolding spelled
  no_room more has small =
      let b = get_or bytes taken 0 in
      let less : length room₀ - made < length (letter b) = omega (arith, l.same, l.fits) in
      rw (drop-cons bytes taken 0 more, has, lt-leb (length (letter b)) (length room₀ - made) less)

  -- a put that did not move shows that there is no room
  pub spelling_full : taken < length bytes → has_letter (get_or bytes taken 0) ≡ true
      → {after : List ℕ} {behind : ℕ} → behind ≡ behind_put room made (letter (get_or bytes taken 0)) → after ≡ room_with room made (letter (get_or bytes taken 0)) → behind ≡ made
      → (◌≡◌ {A = Turned} (record { taken = taken; made = made }) (spelled_answer room₀ bytes)) × (after ≡ sets room₀ 0 (utf8 (spelled (length room₀) bytes)))
  spelling_full more has e f still =
      let b = get_or bytes taken 0 in
      let small = not_put room made (letter b) e still (letter_some b) in
      let end = spelling_end (no_room more has small) in
      (end.0, stays room made (letter b) f small ∙ end.1)
