-- What the checks of an added card tell, and the file that is written. Assumes nothing.
use Prim.Native.Nat.{ℕ, ◌+◌, ◌*◌, ◌≤◌, ◌<◌}
use native.Mathlib.Omega.{arith}
use borrow.Author.Tests.{le-leb, lt-leb, lt-ltb, le-ltb, leb-true, leb-false, ltb-true, ltb-false, eqb-true, eqb-false}
use mathlib.Core.Path.{◌≡◌, refl, sym, ap, ap₂, ◌∙◌}
use mathlib.Core.Bool.{Bool, true, false}
use mathlib.Core.List.{List, [], ◌∷◌, ◌++◌, append-nil}
use lib.Dec.{eqb, leb, ltb}
use lib.ListN.{length, take, length-append}
use lib.Seq.{sets}
use Rattle.ground.specs.Pieces.{joined}
use Rattle.card.specs.declared.Refusal.{Refusal}
use Rattle.card.specs.Refusals.{refuse, none, gate, or_else}
use Rattle.day_index.specs.Order.{flat}
use Rattle.day_index.proofs.Parts.{flat_append, flat_pieces}
use Rattle.day.specs.Cards.{is_card}
use Rattle.day.specs.Files.{Cards, no-cards, one-card, file_of, trailer, index_bytes, size_of, most_cards, count_in, images_in, file_refusal}
use Rattle.day.specs.Calls.{answered, more_refusal, add_refusal, add_answer, add_room, room_after}
use Rattle.day.proofs.Opens.{or_stop, or_on, gate_on, gate_off, Opened, opened}
use Rattle.day.proofs.Sizes.{length_images, length_file, answered_any, room_kept, room_written}

module _ (s card : List ℕ) (size : ℕ) where
  abbrev cardTest : Refusal
  cardTest = gate (is_card card) (refuse 41 (count_in s) 0) none

  abbrev sizeTest : Refusal
  sizeTest = gate (leb (size_of (count_in s + 1)) size) (refuse 45 0 0) cardTest

  abbrev countTest : Refusal
  countTest = gate (ltb (count_in s) most_cards) (refuse 43 0 0) sizeTest

  pub add_file : ((file_refusal s).number ≡ 0 → ⊥) → add_refusal s card size ≡ file_refusal s
  unfolding add_refusal
  add_file h = or_stop (file_refusal s) countTest h

  module _ (z : (file_refusal s).number ≡ 0) where
    past : add_refusal s card size ≡ countTest
    unfolding add_refusal
    past = or_on (file_refusal s) countTest z

    pub add_many : 200 ≤ count_in s → add_refusal s card size ≡ refuse 43 0 0
    add_many h = past ∙ gate_off _ _ (le-ltb (count_in s) 200 h)

    pub add_small : count_in s < 200 → size < size_of (count_in s + 1) → add_refusal s card size ≡ refuse 45 0 0
    add_small h k = past ∙ gate_on _ _ (lt-ltb (count_in s) 200 h) ∙ gate_off _ _ (lt-leb (size_of (count_in s + 1)) size k)

    pub add_last : count_in s < 200 → size_of (count_in s + 1) ≤ size → add_refusal s card size ≡ gate (is_card card) (refuse 41 (count_in s) 0) none
    add_last h k = past ∙ gate_on _ _ (lt-ltb (count_in s) 200 h) ∙ gate_on _ _ (le-leb (size_of (count_in s + 1)) size k)

    pub add_card : count_in s < 200 → size_of (count_in s + 1) ≤ size → is_card card ≡ false → add_refusal s card size ≡ refuse 41 (count_in s) 0
    add_card h k t = add_last h k ∙ gate_off _ _ t

    pub add_none : count_in s < 200 → size_of (count_in s + 1) ≤ size → is_card card ≡ true → add_refusal s card size ≡ none
    add_none h k t = add_last h k ∙ gate_on _ _ t

-- ---- one card more, whatever it is
module _ (n size : ℕ) where
  pub more_many : 200 ≤ n → more_refusal n size ≡ refuse 43 0 0
  unfolding more_refusal
  more_many h = gate_off _ _ (le-ltb n 200 h)

  pub more_small : n < 200 → size < size_of (n + 1) → more_refusal n size ≡ refuse 45 0 0
  unfolding more_refusal
  more_small h k = gate_on _ _ (lt-ltb n 200 h) ∙ gate_off _ _ (lt-leb (size_of (n + 1)) size k)

  pub more_none : n < 200 → size_of (n + 1) ≤ size → more_refusal n size ≡ none
  unfolding more_refusal
  more_none h k = gate_on _ _ (lt-ltb n 200 h) ∙ gate_on _ _ (le-leb (size_of (n + 1)) size k)

-- what is refused before the card is looked at
abbrev pub front_refusal : List ℕ → ℕ → Refusal
front_refusal s size = or_else (file_refusal s) (more_refusal (count_in s) size)

pub record Roomy (s : List ℕ) (size : ℕ) : Type 0 where
  pub zero_file : (file_refusal s).number ≡ 0
  pub few : count_in s < 200
  pub room : size_of (count_in s + 1) ≤ size

-- either the front is refused, and then so is the addition, or there is room
pub data Front (s card : List ℕ) (size : ℕ) : Type 0 where
  refused : ((front_refusal s size).number ≡ 0 → ⊥) → add_refusal s card size ≡ front_refusal s size → Front s card size
  roomy : (front_refusal s size).number ≡ 0 → Roomy s size → Front s card size

pub front : (s card : List ℕ) (size : ℕ) → Front s card size
front s card size = first (eqb (file_refusal s).number 0) refl
  where
    number : {x : Refusal} → front_refusal s size ≡ x → (front_refusal s size).number ≡ x.number
    number e = ap (λ (r : Refusal). r.number) e

    third : (file_refusal s).number ≡ 0 → count_in s < 200 → (q : Bool) → leb (size_of (count_in s + 1)) size ≡ q → Front s card size
    third o h true t =
        let k = leb-true (size_of (count_in s + 1)) size t in
        roomy (number (or_on (file_refusal s) _ o ∙ more_none (count_in s) size h k)) (record { zero_file = o; few = h; room = k })
    third o h false t =
        let k = leb-false (size_of (count_in s + 1)) size t in
        let e = or_on (file_refusal s) (more_refusal (count_in s) size) o ∙ more_small (count_in s) size h k in
        refused (λ z. absurd (omega (arith, number e))) (add_small s card size o h k ∙ sym e)

    second : (file_refusal s).number ≡ 0 → (q : Bool) → ltb (count_in s) 200 ≡ q → Front s card size
    second o true t = third o (ltb-true (count_in s) 200 t) (leb (size_of (count_in s + 1)) size) refl
    second o false t =
        let h = ltb-false (count_in s) 200 t in
        let e = or_on (file_refusal s) (more_refusal (count_in s) size) o ∙ more_many (count_in s) size h in
        refused (λ z. absurd (omega (arith, number e))) (add_many s card size o h ∙ sym e)

    first : (q : Bool) → eqb (file_refusal s).number 0 ≡ q → Front s card size
    first true t = second (eqb-true (file_refusal s).number 0 t) (ltb (count_in s) 200) refl
    first false t =
        let h = eqb-false (file_refusal s).number 0 t in
        let e = or_stop (file_refusal s) (more_refusal (count_in s) size) h in
        refused (λ z. h (sym (number e) ∙ z)) (add_file s card size h ∙ sym e)

pub front_refused : (s card : List ℕ) (size : ℕ) → ((front_refusal s size).number ≡ 0 → ⊥) → add_refusal s card size ≡ front_refusal s size
front_refused s card size h = go (front s card size)
  where
    go : Front s card size → add_refusal s card size ≡ front_refusal s size
    go (refused k e) = e
    go (roomy z r) = absurd (h z)

pub front_roomy : (s : List ℕ) (size : ℕ) → (front_refusal s size).number ≡ 0 → Roomy s size
front_roomy s size h = go (front s [] size)
  where
    go : Front s [] size → Roomy s size
    go (refused k e) = absurd (k h)
    go (roomy z r) = r

-- an addition that is not refused
pub record Added (s card : List ℕ) (size : ℕ) : Type 0 where
  pub zero_file : (file_refusal s).number ≡ 0
  pub file : Opened s
  pub few : count_in s < 200
  pub room : size_of (count_in s + 1) ≤ size
  pub card_is : is_card card ≡ true

pub added : (s card : List ℕ) (size : ℕ) → (add_refusal s card size).number ≡ 0 → Added s card size
added s card size z = first (eqb (file_refusal s).number 0) refl
  where
    number : {x : Refusal} → add_refusal s card size ≡ x → x.number ≡ 0
    number e = sym (ap (λ (r : Refusal). r.number) e) ∙ z

    fourth : (file_refusal s).number ≡ 0 → count_in s < 200 → size_of (count_in s + 1) ≤ size → (q : Bool) → is_card card ≡ q → Added s card size
    fourth o h k true t = record { zero_file = o; file = opened s o; few = h; room = k; card_is = t }
    fourth o h k false t = absurd (omega (arith, number (add_card s card size o h k t)))

    third : (file_refusal s).number ≡ 0 → count_in s < 200 → (q : Bool) → leb (size_of (count_in s + 1)) size ≡ q → Added s card size
    third o h true t = fourth o h (leb-true (size_of (count_in s + 1)) size t) (is_card card) refl
    third o h false t = absurd (omega (arith, number (add_small s card size o h (leb-false (size_of (count_in s + 1)) size t))))

    second : (file_refusal s).number ≡ 0 → (q : Bool) → ltb (count_in s) 200 ≡ q → Added s card size
    second o true t = third o (ltb-true (count_in s) 200 t) (leb (size_of (count_in s + 1)) size) refl
    second o false t = absurd (omega (arith, number (add_many s card size o (ltb-false (count_in s) 200 t))))

    first : (q : Bool) → eqb (file_refusal s).number 0 ≡ q → Added s card size
    first true t = second (eqb-true (file_refusal s).number 0 t) (ltb (count_in s) 200) refl
    first false t =
        let h = eqb-false (file_refusal s).number 0 t in
        absurd (h (number (add_file s card size h)))

-- ---- the new file
pub more_cards : (xs : List (List ℕ)) (x : List ℕ) → Cards xs → is_card x ≡ true → Cards (xs ++ (x ∷ []))
more_cards [] x no-cards t = one-card t no-cards
more_cards (y ∷ xs) x (one-card u c) t = one-card u (more_cards xs x c t)

module _ (s card room : List ℕ) where
  abbrev grown : List (List ℕ)
  grown = images_in s ++ (card ∷ [])

  length-grown : length grown ≡ count_in s + 1
  length-grown = length-append (images_in s) (card ∷ []) ∙ ap (λ (n : ℕ). n + 1) (length_images s)

  grown-flat : flat grown ≡ take (count_in s * 256) s ++ card
  unfolding joined images_in
  grown-flat = flat_append (images_in s) (card ∷ []) ∙ ap₂ (λ (a b : List ℕ). a ++ b) (flat_pieces 256 (count_in s) s) (append-nil card)

  pub grown_file : (n : ℕ) (index : List ℕ) → n ≡ count_in s → index ≡ index_bytes grown → (take (n * 256) s ++ card) ++ (index ++ trailer (n + 1) index) ≡ file_of grown
  unfolding file_of
  grown_file n index e f =
      ap (λ (k : ℕ). (take (k * 256) s ++ card) ++ (index ++ trailer (k + 1) index)) e
      ∙ ap₂ (λ (a : List ℕ) (k : ℕ). a ++ (index ++ trailer k index)) (sym grown-flat) (sym length-grown)
      ∙ ap (λ (i : List ℕ). flat grown ++ (i ++ trailer (length grown) i)) f

  pub refused_add : (x : Refusal) → x ≡ add_refusal s card (length room) → (x.number ≡ 0 → ⊥) → (answered x 0 ≡ add_answer s card room) × (room ≡ add_room s card room)
  unfolding add_answer add_room
  refused_add x e h = (
    answered_any x h 0 (size_of (count_in s + 1)) ∙ ap (λ (y : Refusal). answered y (size_of (count_in s + 1))) e,
    room_kept x h (file_of grown) room ∙ ap (λ (y : Refusal). room_after y (file_of grown) room) e,
  )

  pub written_add : (x : Refusal) (n : ℕ) (index : List ℕ) → x ≡ add_refusal s card (length room) → x.number ≡ 0 → n ≡ count_in s → index ≡ index_bytes grown
      → (answered x ((n + 1) * 270 + 8) ≡ add_answer s card room) × (sets room 0 ((take (n * 256) s ++ card) ++ (index ++ trailer (n + 1) index)) ≡ add_room s card room)
  unfolding add_answer add_room
  written_add x n index e z f g =
      let a = added s card (length room) (sym (ap (λ (r : Refusal). r.number) e) ∙ z) in
      let fits : length (file_of grown) ≤ length room =
      omega (arith, length_file grown (more_cards (images_in s) card a.file.cards a.card_is), length-grown, a.room) in (
        ap₂ (λ (y : Refusal) (k : ℕ). answered y ((k + 1) * 270 + 8)) e f,
        ap (sets room 0) (grown_file n index f g) ∙ room_written x z (file_of grown) room fits ∙ ap (λ (y : Refusal). room_after y (file_of grown) room) e,
      )
