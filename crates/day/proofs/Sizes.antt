-- The sizes of cards and files, and a file in a room. Assumes nothing.
use Prim.Native.Nat.{ℕ, ◌+◌, ◌≤◌}
use native.Mathlib.Omega.{arith}
use borrow.Author.Tests.{eq-eqb, ne_eqb, eqb-true}
use mathlib.Core.Path.{◌≡◌, refl, ap, ◌∙◌}
use mathlib.Core.Bool.{Bool, true, false}
use mathlib.Core.List.{List, [], ◌∷◌, ◌++◌}
use lib.Dec.{eqb}
use lib.ListN.{length, drop, length-append}
use lib.Seq.{sets, sets-eq}
use Rattle.ground.proofs.Lists.{true_false}
use Rattle.edition.specs.Tables.{terminal}
use Rattle.card.specs.declared.Refusal.{Refusal}
use Rattle.card.specs.Refusals.{gate, or_else}
use Rattle.card.specs.Reading.{read_refusal, answered as told, answer, answer_of}
use Rattle.day_index.proofs.Parts.{Sized, sized-none, sized-more, length_flat, length_pieces}
use Rattle.day_index.specs.Order.{flat}
use Rattle.day.specs.Cards.{is_card}
use Rattle.day.specs.Files.{Cards, no-cards, one-card, file_of, trailer, index_bytes, size_of, count_in, images_in}
use Rattle.std.specs.Prelude.{Ok, Err}
use Rattle.day.specs.Calls.{answered, room_after}
use Rattle.day.proofs.Entries.{length_index_bytes}

-- ---- a card is not refused, and has 256 bytes
pub card_read : (x : List ℕ) → is_card x ≡ true → (read_refusal terminal x).number ≡ 0
unfolding is_card answer told answer_of
card_read x t = go (eqb (read_refusal terminal x).number 0) refl
  where
    go : (q : Bool) → eqb (read_refusal terminal x).number 0 ≡ q → (read_refusal terminal x).number ≡ 0
    go true e = eqb-true (read_refusal terminal x).number 0 e
    go false e = absurd (true_false t (rw e e))

pub card_size : (x : List ℕ) → is_card x ≡ true → length x ≡ 256
unfolding read_refusal or_else gate
card_size x t = go (eqb (length x) 256) refl (card_read x t)
  where
    go : (q : Bool) → eqb (length x) 256 ≡ q → (read_refusal terminal x).number ≡ 0 → length x ≡ 256
    go true e z = eqb-true (length x) 256 e
    go false e z = let one : (read_refusal terminal x).number ≡ 1 = rw e in absurd (omega arith)

pub cards_sized : (xs : List (List ℕ)) → Cards xs → Sized 256 xs
cards_sized [] no-cards = sized-none
cards_sized (x ∷ xs) (one-card t c) = sized-more (card_size x t) (cards_sized xs c)

pub length_images : (s : List ℕ) → length (images_in s) ≡ count_in s
unfolding images_in
length_images s = length_pieces 256 (count_in s) s

length_trailer : (n : ℕ) (index : List ℕ) → length (trailer n index) ≡ 8
unfolding trailer
length_trailer n index = refl

pub length_file : (xs : List (List ℕ)) → Cards xs → length (file_of xs) ≡ size_of (length xs)
unfolding file_of
length_file xs c =
    length-append (flat xs) (index_bytes xs ++ trailer (length xs) (index_bytes xs))
    ∙ omega (arith, length_flat 256 xs (cards_sized xs c), length-append (index_bytes xs) (trailer (length xs) (index_bytes xs)), length_index_bytes xs, length_trailer (length xs) (index_bytes xs))

-- ---- answers
module _ (x : Refusal) where
  -- with a refusal the value does not matter
  pub answered_any : (x.number ≡ 0 → ⊥) → (m n : ℕ) → answered x m ≡ answered x n
  unfolding answered
  answered_any h m n = rw (ne_eqb x.number 0 h)

  pub answered_ok : x.number ≡ 0 → (n : ℕ) → Ok n ≡ answered x n
  unfolding answered
  answered_ok h n = rw (eq-eqb x.number 0 h)

  pub answered_err : (x.number ≡ 0 → ⊥) → (n : ℕ) → Err x ≡ answered x n
  unfolding answered
  answered_err h n = rw (ne_eqb x.number 0 h)

  pub room_kept : (x.number ≡ 0 → ⊥) → (new room : List ℕ) → room ≡ room_after x new room
  unfolding room_after
  room_kept h new room = rw (ne_eqb x.number 0 h)

  pub room_written : x.number ≡ 0 → (new room : List ℕ) → length new ≤ length room → sets room 0 new ≡ room_after x new room
  unfolding room_after
  room_written h new room l =
      let e : 0 + length new ≡ length new = omega arith in
      rw (eq-eqb x.number 0 h) (sets-eq new room 0 (omega arith) ∙ ap (λ (k : ℕ). new ++ drop k room) e)
