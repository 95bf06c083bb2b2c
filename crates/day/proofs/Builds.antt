-- What the checks of images laid end to end tell, and the file that is built. Assumes nothing.
use Prim.Native.Nat.{ℕ, ◌+◌, ◌*◌, ◌/◌, ◌%◌, ◌≤◌, ◌<◌}
use native.Mathlib.Omega.{arith}
use borrow.Author.Tests.{le-leb, lt-leb, eq-eqb, ne_eqb, leb-true, leb-false, eqb-true, eqb-false}
use mathlib.Core.Path.{◌≡◌, refl, sym, ap, ap₂, ◌∙◌}
use mathlib.Core.Bool.{Bool, true, false}
use mathlib.Core.List.{List, [], ◌++◌, append-nil}
use lib.Dec.{eqb, leb}
use lib.ListN.{length, take}
use lib.Seq.{sets, take_all, length-take-le}
use Rattle.card.specs.declared.Refusal.{Refusal}
use Rattle.card.specs.Refusals.{refuse, none, gate, or_else}
use Rattle.ground.specs.Pieces.{pieces}
use Rattle.day_index.specs.Order.{flat}
use Rattle.day_index.proofs.Parts.{flat_pieces, length_pieces, pieces_flat, pieces_sized}
use Rattle.day.specs.Files.{Cards, file_of, trailer, index_bytes, size_of, most_cards, count_in, images_in, cards_refusal}
use Rattle.day.specs.Calls.{answered, laid_images, laid_refusal, room_refusal, build_refusal, build_answer, build_room, room_after}
use Rattle.day.proofs.Turns.{none_refused, all_cards}
use Rattle.day.proofs.Opens.{or_stop, or_on, gate_on, gate_off}
use Rattle.day.proofs.Sizes.{length_file, answered_any, room_kept, room_written}

module _ (s : List ℕ) (size : ℕ) where
  abbrev many : ℕ
  many = length s / 256

  abbrev cardsTest : Refusal
  cardsTest = cards_refusal 0 (laid_images s)

  abbrev lastTests : Refusal
  lastTests = gate (leb many most_cards) (refuse 43 0 0) (gate (leb (size_of many) size) (refuse 45 0 0) none)

  pub build_odd : (length s % 256 ≡ 0 → ⊥) → build_refusal s size ≡ refuse 40 0 0
  unfolding build_refusal
  build_odd h = gate_off _ _ (ne_eqb (length s % 256) 0 h)

  module _ (e : length s % 256 ≡ 0) where
    even : build_refusal s size ≡ or_else cardsTest lastTests
    unfolding build_refusal
    even = gate_on _ _ (eq-eqb (length s % 256) 0 e)

    pub build_many : 200 < many → build_refusal s size ≡ or_else (cards_refusal 0 (pieces 256 many s)) (refuse 43 0 0)
    unfolding laid_images
    build_many h = even ∙ ap (or_else cardsTest) (gate_off _ _ (lt-leb many 200 h))

    pub build_card : (cardsTest.number ≡ 0 → ⊥) → build_refusal s size ≡ cardsTest
    build_card h = even ∙ or_stop cardsTest lastTests h

    module _ (z : cardsTest.number ≡ 0) where
      pub build_few : 200 < many → build_refusal s size ≡ refuse 43 0 0
      build_few h = even ∙ or_on cardsTest lastTests z ∙ gate_off _ _ (lt-leb many 200 h)

      pub build_small : many ≤ 200 → size < size_of many → build_refusal s size ≡ refuse 45 0 0
      build_small h k = even ∙ or_on cardsTest lastTests z ∙ gate_on _ _ (le-leb many 200 h) ∙ gate_off _ _ (lt-leb (size_of many) size k)

      pub build_none : many ≤ 200 → size_of many ≤ size → build_refusal s size ≡ none
      build_none h k = even ∙ or_on cardsTest lastTests z ∙ gate_on _ _ (le-leb many 200 h) ∙ gate_on _ _ (le-leb (size_of many) size k)

-- ---- what the images tell by themselves
module _ (s : List ℕ) where
  pub laid_many : 200 < length s / 256 → laid_refusal s ≡ or_else (cards_refusal 0 (laid_images s)) (refuse 43 0 0)
  unfolding laid_refusal
  laid_many h = ap (or_else (cards_refusal 0 (laid_images s))) (gate_off _ _ (lt-leb (length s / 256) 200 h))

  pub laid_few : length s / 256 ≤ 200 → laid_refusal s ≡ cards_refusal 0 (laid_images s)
  unfolding laid_refusal
  laid_few h = ap (or_else (cards_refusal 0 (laid_images s))) (gate_on _ _ (le-leb (length s / 256) 200 h)) ∙ go (eqb (cards_refusal 0 (laid_images s)).number 0) refl
    where
      go : (q : Bool) → eqb (cards_refusal 0 (laid_images s)).number 0 ≡ q → or_else (cards_refusal 0 (laid_images s)) none ≡ cards_refusal 0 (laid_images s)
      go true t =
          let z = eqb-true (cards_refusal 0 (laid_images s)).number 0 t in
          or_on (cards_refusal 0 (laid_images s)) none z ∙ sym (all_cards 0 (laid_images s) (none_refused 0 (laid_images s) z))
      go false t = or_stop (cards_refusal 0 (laid_images s)) none (eqb-false (cards_refusal 0 (laid_images s)).number 0 t)

  pub build_even : (size : ℕ) → length s % 256 ≡ 0 → build_refusal s size ≡ or_else (laid_refusal s) (room_refusal (length s / 256) size)
  unfolding laid_refusal room_refusal
  build_even size e = even s size e ∙ go (eqb (cards_refusal 0 (laid_images s)).number 0) refl
    where
      a : Refusal
      a = cards_refusal 0 (laid_images s)

      last : Refusal
      last = gate (leb (size_of (length s / 256)) size) (refuse 45 0 0) none

      second : (q : Bool) → leb (length s / 256) most_cards ≡ q
          → gate (leb (length s / 256) most_cards) (refuse 43 0 0) last ≡ or_else (gate (leb (length s / 256) most_cards) (refuse 43 0 0) none) last
      second true t = gate_on _ _ t ∙ sym (ap (λ (x : Refusal). or_else x last) (gate_on _ _ t) ∙ or_on none last refl)
      second false t = gate_off _ _ t ∙ sym (ap (λ (x : Refusal). or_else x last) (gate_off _ _ t) ∙ or_stop (refuse 43 0 0) last (λ z. absurd (omega arith)))

      go : (q : Bool) → eqb a.number 0 ≡ q
          → or_else a (gate (leb (length s / 256) most_cards) (refuse 43 0 0) last) ≡ or_else (or_else a (gate (leb (length s / 256) most_cards) (refuse 43 0 0) none)) last
      go true t =
          let z = eqb-true a.number 0 t in
          or_on a _ z ∙ second (leb (length s / 256) most_cards) refl ∙ sym (ap (λ (x : Refusal). or_else x last) (or_on a _ z))
      go false t =
          let h = eqb-false a.number 0 t in
          or_stop a _ h ∙ sym (ap (λ (x : Refusal). or_else x last) (or_stop a _ h) ∙ or_stop a last h)

-- the images of a file, as they are lent
module _ (s : List ℕ) (n : ℕ) (e : n ≡ count_in s) (h : n * 256 ≤ length s) where
  laid-size : length (take (n * 256) s) / 256 ≡ n
  laid-size = omega (arith, length-take-le (n * 256) s h)

  pub laid_part : laid_images (take (n * 256) s) ≡ images_in s
  unfolding laid_images images_in
  laid_part =
      let xs = pieces 256 n s in
      let w : pieces 256 (length xs) (flat xs ++ []) ≡ xs = pieces_flat 256 xs [] (pieces_sized 256 n s h) in
      ap (λ (k : ℕ). pieces 256 k (take (n * 256) s)) laid-size
      ∙ ap (pieces 256 n) (sym (append-nil (flat xs) ∙ flat_pieces 256 n s))
      ∙ ap (λ (k : ℕ). pieces 256 k (flat xs ++ [])) (sym (length_pieces 256 n s))
      ∙ w
      ∙ ap (λ (k : ℕ). pieces 256 k s) e

  pub laid_file_refusal : n ≤ 200 → laid_refusal (take (n * 256) s) ≡ cards_refusal 0 (images_in s)
  laid_file_refusal k = laid_few (take (n * 256) s) (omega (arith, laid-size)) ∙ ap (cards_refusal 0) laid_part

  pub laid_length : length (take (n * 256) s) / 256 * 14 ≡ n * 14
  laid_length = ap (λ (k : ℕ). k * 14) laid-size

-- a building that is not refused
pub record Built (s : List ℕ) (size : ℕ) : Type 0 where
  pub whole : length s % 256 ≡ 0
  pub cards : Cards (laid_images s)
  pub few : length s / 256 ≤ 200
  pub room : size_of (length s / 256) ≤ size

pub built : (s : List ℕ) (size : ℕ) → (build_refusal s size).number ≡ 0 → Built s size
built s size z = first (eqb (length s % 256) 0) refl
  where
    number : {x : Refusal} → build_refusal s size ≡ x → x.number ≡ 0
    number e = sym (ap (λ (r : Refusal). r.number) e) ∙ z

    fourth : length s % 256 ≡ 0 → (cards_refusal 0 (laid_images s)).number ≡ 0 → length s / 256 ≤ 200 → (q : Bool) → leb (size_of (length s / 256)) size ≡ q → Built s size
    fourth e o h true t = record { whole = e; cards = none_refused 0 (laid_images s) o; few = h; room = leb-true (size_of (length s / 256)) size t }
    fourth e o h false t = absurd (omega (arith, number (build_small s size e o h (leb-false (size_of (length s / 256)) size t))))

    third : length s % 256 ≡ 0 → (cards_refusal 0 (laid_images s)).number ≡ 0 → (q : Bool) → leb (length s / 256) 200 ≡ q → Built s size
    third e o true t = fourth e o (leb-true (length s / 256) 200 t) (leb (size_of (length s / 256)) size) refl
    third e o false t = absurd (omega (arith, number (build_few s size e o (leb-false (length s / 256) 200 t))))

    second : length s % 256 ≡ 0 → (q : Bool) → eqb (cards_refusal 0 (laid_images s)).number 0 ≡ q → Built s size
    second e true t = third e (eqb-true (cards_refusal 0 (laid_images s)).number 0 t) (leb (length s / 256) 200) refl
    second e false t =
        let h = eqb-false (cards_refusal 0 (laid_images s)).number 0 t in
        absurd (h (number (build_card s size e h)))

    first : (q : Bool) → eqb (length s % 256) 0 ≡ q → Built s size
    first true t = second (eqb-true (length s % 256) 0 t) (eqb (cards_refusal 0 (laid_images s)).number 0) refl
    first false t = absurd (omega (arith, number (build_odd s size (eqb-false (length s % 256) 0 t))))

-- ---- the new file
module _ (s room : List ℕ) where
  length-laid : length (laid_images s) ≡ length s / 256
  unfolding laid_images
  length-laid = length_pieces 256 (length s / 256) s

  laid-flat : length s % 256 ≡ 0 → flat (laid_images s) ≡ s
  unfolding laid_images
  laid-flat h = flat_pieces 256 (length s / 256) s ∙ take_all (length s / 256 * 256) s (omega arith)

  pub laid_file : (index : List ℕ) → length s % 256 ≡ 0 → index ≡ index_bytes (laid_images s) → s ++ (index ++ trailer (length s / 256) index) ≡ file_of (laid_images s)
  unfolding file_of
  laid_file index h f =
      ap₂ (λ (a : List ℕ) (k : ℕ). a ++ (index ++ trailer k index)) (sym (laid-flat h)) (sym length-laid)
      ∙ ap (λ (i : List ℕ). flat (laid_images s) ++ (i ++ trailer (length (laid_images s)) i)) f

  pub refused_build : (x : Refusal) → x ≡ build_refusal s (length room) → (x.number ≡ 0 → ⊥) → (answered x 0 ≡ build_answer s room) × (room ≡ build_room s room)
  unfolding build_answer build_room
  refused_build x e h = (
    answered_any x h 0 (size_of (length s / 256)) ∙ ap (λ (y : Refusal). answered y (size_of (length s / 256))) e,
    room_kept x h (file_of (laid_images s)) room ∙ ap (λ (y : Refusal). room_after y (file_of (laid_images s)) room) e,
  )

  pub written_build : (x : Refusal) (index : List ℕ) → x ≡ build_refusal s (length room) → x.number ≡ 0 → index ≡ index_bytes (laid_images s)
      → (answered x (length s / 256 * 270 + 8) ≡ build_answer s room) × (sets room 0 (s ++ (index ++ trailer (length s / 256) index)) ≡ build_room s room)
  unfolding build_answer build_room
  written_build x index e z g =
      let b = built s (length room) (sym (ap (λ (r : Refusal). r.number) e) ∙ z) in
      let fits : length (file_of (laid_images s)) ≤ length room = omega (arith, length_file (laid_images s) b.cards, length-laid, b.room) in (
        ap (λ (y : Refusal). answered y (size_of (length s / 256))) e,
        ap (sets room 0) (laid_file index b.whole g) ∙ room_written x z (file_of (laid_images s)) room fits ∙ ap (λ (y : Refusal). room_after y (file_of (laid_images s)) room) e,
      )
