-- Images in turn: the first that is refused. Assumes nothing.
use Prim.Native.Nat.{ℕ, suc, ◌+◌, ◌-◌, ◌*◌, ◌≤◌, ◌<◌}
use native.Mathlib.Numerals.{add-one}
use native.Mathlib.Omega.{arith}
use mathlib.Core.Path.{◌≡◌, refl, ◌∙◌}
use mathlib.Core.Bool.{Bool, true, false, cond}
use mathlib.Core.List.{List, [], ◌∷◌}
use lib.ListN.{take, drop}
use lib.Seq.{drop-drop}
use Rattle.card.specs.declared.Refusal.{Refusal}
use Rattle.card.specs.Refusals.{refuse, none, gate}
use Rattle.ground.specs.Pieces.{pieces}
use Rattle.day_index.specs.Order.{room_with_entry}
use Rattle.day.specs.Cards.{is_card, number_of, entry}
use Rattle.day.specs.Files.{cards_refusal, index_room, Cards, no-cards, one-card}

-- ---- a loop over the first n images of some bytes: the refusal of those from k on
abbrev pub refusal_from : List ℕ → ℕ → ℕ → Refusal
refusal_from l n k = cards_refusal k (pieces 256 (n - k) (drop (k * 256) l))

module _ (l : List ℕ) (n k : ℕ) (h : k < n) where
  split : refusal_from l n k ≡ gate (is_card (take 256 (drop (k * 256) l))) (refuse 41 k 0) (refusal_from l n (k + 1))
  unfolding cards_refusal pieces
  split =
      let e : n - k ≡ suc (n - (k + 1)) = omega arith in
      let f : k * 256 + 256 ≡ (k + 1) * 256 = omega arith in
      rw (e, drop-drop, f, ← add-one k)

  pub cards_pass : is_card (take 256 (drop (k * 256) l)) ≡ true → refusal_from l n k ≡ refusal_from l n (k + 1)
  unfolding gate
  cards_pass t = split ∙ rw t

  pub cards_stop : is_card (take 256 (drop (k * 256) l)) ≡ false → refusal_from l n k ≡ refuse 41 k 0
  unfolding gate
  cards_stop t = split ∙ rw t

pub cards_end : (l : List ℕ) (n k : ℕ) → n ≤ k → refusal_from l n k ≡ none
unfolding cards_refusal pieces
cards_end l n k h = let e : n - k ≡ 0 = omega arith in rw e

pub cards_start : (l : List ℕ) (n : ℕ) → refusal_from l n 0 ≡ cards_refusal 0 (pieces 256 n l)
cards_start l n = let e : n - 0 ≡ n = omega arith in let f : 0 * 256 ≡ 0 = omega arith in rw (e, f)

-- ---- the same loop, and the room in which it puts the entries
abbrev pub room_from : List ℕ → ℕ → ℕ → List ℕ → List ℕ
room_from l n k room = index_room k (pieces 256 (n - k) (drop (k * 256) l)) room

module _ (l : List ℕ) (n k : ℕ) (room : List ℕ) where
  abbrev image : List ℕ
  image = take 256 (drop (k * 256) l)

  split-room : k < n → room_from l n k room ≡ cond (is_card image) (room_from l n (k + 1) (room_with_entry (entry (number_of image) k) k room)) room
  unfolding index_room pieces
  split-room h =
      let e : n - k ≡ suc (n - (k + 1)) = omega arith in
      let f : k * 256 + 256 ≡ (k + 1) * 256 = omega arith in
      rw (e, drop-drop, f, ← add-one k)

  pub room_pass : k < n → is_card image ≡ true → room_from l n k room ≡ room_from l n (k + 1) (room_with_entry (entry (number_of image) k) k room)
  room_pass h t = split-room h ∙ rw t

  pub room_stop : k < n → is_card image ≡ false → room_from l n k room ≡ room
  room_stop h t = split-room h ∙ rw t

  pub room_end : n ≤ k → room_from l n k room ≡ room
  unfolding index_room pieces
  room_end h = let e : n - k ≡ 0 = omega arith in rw e

pub room_start : (l : List ℕ) (n : ℕ) (room : List ℕ) → room_from l n 0 room ≡ index_room 0 (pieces 256 n l) room
room_start l n room = let e : n - 0 ≡ n = omega arith in let f : 0 * 256 ≡ 0 = omega arith in rw (e, f)

-- ---- none is refused exactly where all are cards
pub none_refused : (k : ℕ) (xs : List (List ℕ)) → (cards_refusal k xs).number ≡ 0 → Cards xs
unfolding cards_refusal gate
none_refused k [] e = no-cards
none_refused k (x ∷ xs) e = go (is_card x) refl e (none_refused (suc k) xs)
  where
    go : (q : Bool) → is_card x ≡ q → (gate q (refuse 41 k 0) (cards_refusal (suc k) xs)).number ≡ 0 → ((cards_refusal (suc k) xs).number ≡ 0 → Cards xs) → Cards (x ∷ xs)
    go true t u ih = one-card t (ih u)
    go false t u ih = absurd (omega arith)

pub all_cards : (k : ℕ) (xs : List (List ℕ)) → Cards xs → cards_refusal k xs ≡ none
unfolding cards_refusal gate
all_cards k [] no-cards = refl
all_cards k (x ∷ xs) (one-card t c) = rw t (all_cards (suc k) xs c)
