-- What is proved of day files: a file is the file of its images; an added card's file is the one built afresh; what is found is the first. Assumes nothing.
use Prim.Native.Nat.{ℕ, suc, ◌+◌, ◌-◌, ◌*◌, ◌/◌, ◌%◌, ◌≤◌, ◌<◌}
use native.Mathlib.Omega.{arith}
use native.Mathlib.Decide.{dec_le}
use borrow.Author.Tests.{eq-eqb, not-false}
use mathlib.Core.Path.{◌≡◌, refl, sym, ap, ap₂, ◌∙◌}
use mathlib.Core.Bool.{Bool, true, false, cond, not}
use mathlib.Core.List.{List, [], ◌∷◌, ◌++◌, append_assoc, append-nil}
use lib.ListN.{length, get_or, take, drop, length-append, take-append-drop}
use lib.Seq.{drop-drop, take_at, drop_at, get_or-append-add}
use Rattle.ground.proofs.Lists.{true_false, leading_before, leading_at}
use Rattle.card.specs.declared.Refusal.{Refusal}
use Rattle.card.specs.Refusals.{none}
use Rattle.ground.specs.Pieces.{pieces}
use Rattle.ground.specs.Lists.{same_list}
use Rattle.day_index.specs.Order.{below, insert, flat}
use Rattle.day_index.proofs.Parts.{length_pieces, length_flat, pieces_flat, flat_pieces}
use Rattle.day.specs.Cards.{entry, number_of}
use Rattle.day.specs.Index.{index_from, index_of}
use Rattle.day.specs.Files.{Cards, DayFile, file_of, trailer, index_bytes, size_of, count_in, images_in, index_in, fits, cards_refusal, file_refusal}
use Rattle.day.specs.Calls.{value_of, answered, room_after, number_formed, has_number, first_with, find_refusal, find_answer, add_refusal, add_answer, add_room, laid_images, build_refusal, build_answer, build_room}
use Rattle.day.proofs.Entries.{length_index_bytes, index_sorted}
use Rattle.day.proofs.Turns.{all_cards}
use Rattle.day.proofs.Frames.{by_trailer}
use Rattle.day.proofs.Opens.{opened, same_self, file_opens}
use Rattle.ground.proofs.Lists.{same_equal}
use Rattle.day.proofs.Sizes.{cards_sized, length_images, length_file}
use Rattle.day.proofs.Adds.{Added, added, add_none, more_cards}
use Rattle.day.proofs.Builds.{built, build_none}
use Rattle.day.proofs.Finding.{find_none, found_there, told_none}
use Rattle.day.proofs.Only.{one_order}
use Rattle.day.specs.Promises.{Exactly, AddedAfresh, BuiltBack, times, entries_from, IsIndex, OneIndex, HasAt, Lowest, FindsFirst, FindsNone}

-- ---- a file that is not refused is the file of the images in it
images_flat : (s : List ℕ) → flat (images_in s) ≡ take (count_in s * 256) s
unfolding images_in
images_flat s = flat_pieces 256 (count_in s) s

pub file_is : (s : List ℕ) → (file_refusal s).number ≡ 0 → file_of (images_in s) ≡ s
unfolding file_of
file_is s z =
    let o = opened s z in
    let n = count_in s in
    let e : n * 256 + n * 14 ≡ n * 270 = omega arith in
    let front : flat (images_in s) ≡ take (n * 256) s = images_flat s in
    let index : index_bytes (images_in s) ≡ take (n * 14) (drop (n * 256) s) = sym o.index in
    let end : trailer (length (images_in s)) (index_bytes (images_in s)) ≡ drop (n * 14) (drop (n * 256) s) =
    ap₂ trailer (length_images s) (sym o.index) ∙ sym (same_equal (drop (n * 270) s) (trailer n (index_in s)) o.frame.trail)
    ∙ ap (λ (k : ℕ). drop k s) (sym e) ∙ sym (drop-drop (n * 14) (n * 256) s) in
    ap₂ (λ (a b : List ℕ). a ++ b) front (ap₂ (λ (a b : List ℕ). a ++ b) index end ∙ take-append-drop (n * 14) (drop (n * 256) s))
    ∙ take-append-drop (n * 256) s

-- ---- the file of some cards, at most 200, is not refused, and has these images
module _ (xs : List (List ℕ)) (c : Cards xs) where
  abbrev n : ℕ
  n = length xs

  abbrev index : List ℕ
  index = index_bytes xs

  abbrev front : List ℕ
  front = flat xs ++ index

  front-size : length front ≡ n * 270
  front-size = length-append (flat xs) index ∙ omega (arith, length_flat 256 xs (cards_sized xs c), length_index_bytes xs)

  in_two : file_of xs ≡ front ++ trailer n index
  unfolding file_of
  in_two = sym (append_assoc (flat xs) index (trailer n index))

  trailer-byte : (k : ℕ) → get_or (file_of xs) (n * 270 + k) 0 ≡ get_or (trailer n index) k 0
  trailer-byte k =
      ap₂ (λ (l : List ℕ) (i : ℕ). get_or l (i + k) 0) in_two (sym front-size) ∙ get_or-append-add front (trailer n index) k 0

  pub count_back : count_in (file_of xs) ≡ n
  unfolding trailer
  count_back =
      let s = length_file xs c in
      let a : length (file_of xs) - 4 ≡ n * 270 + 4 = omega arith in
      let b : length (file_of xs) - 3 ≡ n * 270 + 5 = omega arith in
      let high : get_or (file_of xs) (length (file_of xs) - 4) 0 ≡ n / 256 = ap (λ (i : ℕ). get_or (file_of xs) i 0) a ∙ trailer-byte 4 in
      let low : get_or (file_of xs) (length (file_of xs) - 3) 0 ≡ n % 256 = ap (λ (i : ℕ). get_or (file_of xs) i 0) b ∙ trailer-byte 5 in
      ap₂ (λ (x y : ℕ). x * 256 + y) high low ∙ omega arith

  pub images_back : images_in (file_of xs) ≡ xs
  unfolding images_in file_of
  images_back = ap (λ (k : ℕ). pieces 256 k (file_of xs)) count_back ∙ pieces_flat 256 xs (index ++ trailer n index) (cards_sized xs c)

  index_back : index_in (file_of xs) ≡ index
  unfolding file_of
  index_back =
      ap (λ (k : ℕ). take (k * 14) (drop (k * 256) (file_of xs))) count_back
      ∙ ap (take (n * 14)) (drop_at (flat xs) (index ++ trailer n index) (n * 256) (length_flat 256 xs (cards_sized xs c)))
      ∙ take_at index (trailer n index) (n * 14) (length_index_bytes xs)

  pub file_fits : n ≤ 200 → fits (file_of xs) ≡ true
  file_fits h =
      let s = length_file xs c in
      let k = count_back in
      let end : drop (count_in (file_of xs) * 270) (file_of xs) ≡ trailer n index =
      ap (λ (i : ℕ). drop (i * 270) (file_of xs)) k ∙ ap (drop (n * 270)) in_two ∙ drop_at front (trailer n index) (n * 270) front-size in
      by_trailer (file_of xs) (omega arith) (omega arith) (omega arith)
      ∙ ap₂ same_list end (ap₂ trailer k index_back)
      ∙ same_self (trailer n index)

  pub file_of_cards : n ≤ 200 → file_refusal (file_of xs) ≡ none
  file_of_cards h =
      file_opens (file_of xs) (file_fits h) (ap (λ (x : Refusal). x.number) (ap (cards_refusal 0) images_back ∙ all_cards 0 xs c))
      (ap₂ same_list index_back (ap index_bytes images_back) ∙ same_self index)

-- ---- some bytes are a day file exactly where no check refuses them
pub day_file : (s : List ℕ) → (file_refusal s).number ≡ 0 → DayFile s
day_file s z =
    let o = opened s z in
    record { images = images_in s; cards = o.cards; most = omega (arith, length_images s, o.frame.most); drawn = file_is s z }

pub not_refused : (s : List ℕ) → DayFile s → file_refusal s ≡ none
not_refused s d = ap file_refusal (sym d.drawn) ∙ file_of_cards d.images d.cards d.most

-- two of the same images are one
pub one_file : (s t : List ℕ) → DayFile s → DayFile t → images_in s ≡ images_in t → s ≡ t
one_file s t d e h =
    let number : (u : List ℕ) → DayFile u → (file_refusal u).number ≡ 0 = λ u f. ap (λ (x : Refusal). x.number) (not_refused u f) in
    sym (file_is s (number s d)) ∙ ap file_of h ∙ file_is t (number t e)

-- ---- an added card's file is the one built afresh
module _ (s card room : List ℕ) (z : (add_refusal s card (length room)).number ≡ 0) where
  abbrev all : List (List ℕ)
  all = images_in s ++ (card ∷ [])

  abbrev a : Added s card (length room)
  a = added s card (length room) z

  all-cards-are : Cards all
  all-cards-are = more_cards (images_in s) card a.file.cards a.card_is

  all-count : length all ≡ count_in s + 1
  all-count = length-append (images_in s) (card ∷ []) ∙ ap (λ (k : ℕ). k + 1) (length_images s)

  laid-size : length (flat all) ≡ (count_in s + 1) * 256
  laid-size = length_flat 256 all (cards_sized all all-cards-are) ∙ ap (λ (k : ℕ). k * 256) all-count

  laid-count : length (flat all) / 256 ≡ count_in s + 1
  laid-count = let e = laid-size in omega arith

  laid-all : laid_images (flat all) ≡ all
  unfolding laid_images
  laid-all =
      ap₂ (λ (k : ℕ) (l : List ℕ). pieces 256 k l) (laid-count ∙ sym all-count) (sym (append-nil (flat all)))
      ∙ pieces_flat 256 all [] (cards_sized all all-cards-are)

  build-refusal : build_refusal (flat all) (length room) ≡ none
  build-refusal =
      let e = laid-size in
      let k = laid-count in
      build_none (flat all) (length room) (omega arith) (ap (λ (x : Refusal). x.number) (ap (cards_refusal 0) laid-all ∙ all_cards 0 all all-cards-are))
      (omega (arith, a.few)) (omega (arith, a.room))

  add-refusal : add_refusal s card (length room) ≡ none
  add-refusal = add_none s card (length room) a.zero_file a.few a.room a.card_is

  pub added_afresh : (build_answer (flat all) room ≡ add_answer s card room) × (build_room (flat all) room ≡ add_room s card room)
  unfolding build_answer build_room add_answer add_room
  added_afresh = (
    ap₂ (λ (x : Refusal) (k : ℕ). answered x (size_of k)) (build-refusal ∙ sym add-refusal) laid-count,
    ap₂ (λ (x : Refusal) (l : List (List ℕ)). room_after x (file_of l) room) (build-refusal ∙ sym add-refusal) laid-all,
  )

-- ---- reading back what was built or added
laid_length : (s : List ℕ) → length (laid_images s) ≡ length s / 256
unfolding laid_images
laid_length s = length_pieces 256 (length s / 256) s

pub built_back : (s : List ℕ) (size : ℕ) → (build_refusal s size).number ≡ 0 → (file_refusal (file_of (laid_images s)) ≡ none) × (images_in (file_of (laid_images s)) ≡ laid_images s)
built_back s size z =
    let b = built s size z in
    (file_of_cards (laid_images s) b.cards (omega (arith, laid_length s, b.few)), images_back (laid_images s) b.cards)

pub added_back : (s card : List ℕ) (size : ℕ) → (add_refusal s card size).number ≡ 0
    → (file_refusal (file_of (images_in s ++ (card ∷ []))) ≡ none) × (images_in (file_of (images_in s ++ (card ∷ []))) ≡ images_in s ++ (card ∷ []))
added_back s card size z =
    let a = added s card size z in
    let c = more_cards (images_in s) card a.file.cards a.card_is in
    let n : length (images_in s ++ (card ∷ [])) ≡ count_in s + 1 = length-append (images_in s) (card ∷ []) ∙ ap (λ (k : ℕ). k + 1) (length_images s) in
    (file_of_cards (images_in s ++ (card ∷ [])) c (omega (arith, a.few)), images_back (images_in s ++ (card ∷ [])) c)

-- ---- what is found has the number, and nothing before it has; where nothing is found, nothing has
module _ (file number : List ℕ) where
  has-test : (k : ℕ) → HasAt file number k → not (has_number number (get_or (images_in file) k [])) ≡ false
  has-test k h = rw (h.1, same_self number)

  no-earlier : (k : ℕ) → k < first_with number (images_in file) → HasAt file number k → ⊥
  unfolding first_with
  no-earlier k l h = true_false (leading_before (λ x. not (has_number number x)) [] (images_in file) k l) (has-test k h)

  has_first : first_with number (images_in file) < length (images_in file) → HasAt file number (first_with number (images_in file))
  unfolding first_with
  has_first h =
      (h, same_equal (number_of (get_or (images_in file) (first_with number (images_in file)) [])) number (not-false _ (leading_at (λ x. not (has_number number x)) [] (images_in file) h)))

  pub finds_first : (find_refusal file number).number ≡ 0 → Lowest file number (value_of (find_answer file number))
  unfolding find_answer answered
  finds_first z = rw (eq-eqb (find_refusal file number).number 0 z) (record { has = has_first there; none_before = no-earlier })
    where
      there : first_with number (images_in file) < length (images_in file)
      there = omega (arith, found_there file number z, length_images file)

  pub finds_none : (file_refusal file).number ≡ 0 → number_formed number ≡ true
      → ((find_refusal file number).number ≡ 44 → (k : ℕ) → HasAt file number k → ⊥) × (((k : ℕ) → HasAt file number k → ⊥) → (find_refusal file number).number ≡ 44)
  finds_none z t = (
    λ e k h. no-earlier k (omega (arith, h.0, length_images file, told_none file number z t e)) h,
    λ none_has. go (dec_le (count_in file) (first_with number (images_in file))) none_has,
  )
    where
      go : Dec (count_in file ≤ first_with number (images_in file)) → ((k : ℕ) → HasAt file number k → ⊥) → (find_refusal file number).number ≡ 44
      go (yes l) none_has = ap (λ (x : Refusal). x.number) (find_none file number z t l)
      go (no l) none_has = absurd (none_has (first_with number (images_in file)) (has_first (omega (arith, length_images file))))

-- ---- the index has each entry as often as the numbers do
insert_times : (e x : List ℕ) (xs : List (List ℕ)) → times e (insert x xs) ≡ cond (same_list e x) 1 0 + times e xs
unfolding insert times
insert_times e x [] = refl
insert_times e x (y ∷ ys) = go (below y x) (insert_times e x ys)
  where
    go : (q : Bool) → times e (insert x ys) ≡ cond (same_list e x) 1 0 + times e ys
        → times e (cond q (y ∷ insert x ys) (x ∷ y ∷ ys)) ≡ cond (same_list e x) 1 0 + (cond (same_list e y) 1 0 + times e ys)
    go true ih = omega (arith, ih)
    go false ih = refl

from_times : (e : List ℕ) (k : ℕ) (es ns : List (List ℕ)) → times e (index_from k es ns) ≡ times e es + times e (entries_from k ns)
unfolding index_from entries_from times
from_times e k es [] = omega arith
from_times e k es (n ∷ ns) = from_times e (suc k) (insert (entry n k) es) ns ∙ omega (arith, insert_times e (entry n k) es)

pub index_times : (e : List ℕ) (ns : List (List ℕ)) → times e (index_of ns) ≡ times e (entries_from 0 ns)
unfolding times
index_times e ns = from_times e 0 [] ns ∙ omega arith

-- ---- what is promised
pub exactly : Exactly
exactly file = (day_file file, not_refused file)

pub afresh : AddedAfresh
afresh file card room z = added_afresh file card room z

pub back : BuiltBack
back images size z = built_back images size z

pub one_index : OneIndex
one_index numbers =
    let own : IsIndex numbers (index_of numbers) = record { sorted = index_sorted numbers; each = λ e. index_times e numbers } in
    (own, λ es i. one_order es (index_of numbers) i.sorted (index_sorted numbers) (λ e. i.each e ∙ sym (index_times e numbers)))

pub first : FindsFirst
first file number z = finds_first file number z

pub none_found : FindsNone
none_found file number z t = finds_none file number z t
