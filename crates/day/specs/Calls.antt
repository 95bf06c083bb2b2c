-- What each call answers: a number, or a refusal; and what it leaves in the room that it is lent.
use Rattle.std.specs.Prelude.{ℕ, ◌+◌, ◌*◌, ◌/◌, ◌%◌, Bool, cond, not, ◌&&◌, List, [], ◌∷◌, ◌++◌, eqb, leb, ltb, length, take, drop, Result, Ok, Err}
use Rattle.ground.specs.Lists.{leading}
use Rattle.rules.specs.Values.{is_digit}
use Rattle.card.specs.declared.Refusal.{Refusal}
use Rattle.card.specs.Refusals.{refuse, none, gate, or_else}
use Rattle.ground.specs.Pieces.{pieces}
use Rattle.ground.specs.Lists.{same_list}
use Rattle.day.specs.Cards.{is_card, number_of, entry}
use Rattle.day.specs.Index.{halved, told_at}
use Rattle.day.specs.Files.{file_of, most_cards, size_of, count_in, images_in, cards_refusal, index_room, file_refusal}

abbrev pub accepts : Refusal → Bool
accepts x = eqb x.number 0

abbrev pub Answer : Type 0
Answer = Result ℕ Refusal

unfoldable pub answered : Refusal → ℕ → Answer
answered x n = cond (accepts x) (Ok n) (Err x)

-- the number that is answered, and 0 where there is none
abbrev pub value_of : Answer → ℕ
value_of (Ok n) = n
value_of (Err x) = 0

-- a refusal leaves the room unchanged, and what lies behind the new file stays
unfoldable pub room_after : Refusal → List ℕ → List ℕ → List ℕ
room_after x new room = cond (accepts x) (new ++ drop (length new) room) room

-- ---- reading: the count, and where the image at a position starts
unfoldable pub count_answer : List ℕ → Answer
count_answer file = answered (file_refusal file) (count_in file)

-- 44: a position past so many images
unfoldable pub past_refusal : ℕ → ℕ → Refusal
past_refusal position count = gate (ltb position count) (refuse 44 0 0) none

unfoldable pub image_refusal : List ℕ → ℕ → Refusal
image_refusal file position = or_else (file_refusal file) (gate (ltb position (count_in file)) (refuse 44 0 0) none)

unfoldable pub image_answer : List ℕ → ℕ → Answer
image_answer file position = answered (image_refusal file position) (position * 256)

-- its bytes, none where it is refused
unfoldable pub image_at : List ℕ → ℕ → List ℕ
image_at file position = cond (accepts (image_refusal file position)) (take 256 (drop (position * 256) file)) []

-- ---- finding: 6 to 12 digits, and the first card that has this number
unfoldable pub number_formed : List ℕ → Bool
number_formed number = leb 6 (length number) && (leb (length number) 12 && eqb (leading is_digit number) (length number))

abbrev pub has_number : List ℕ → List ℕ → Bool
has_number number image = same_list (number_of image) number

unfoldable pub first_with : List ℕ → List (List ℕ) → ℕ
first_with number images = leading (λ x. not (has_number number x)) images

-- the position that an index tells of a number, and how many entries it has where it tells none
abbrev pub entries_in : List ℕ → List (List ℕ)
entries_in index = pieces 14 (length index / 14) index

unfoldable pub position_in : List ℕ → List ℕ → ℕ
position_in index number =
    cond (number_formed number)
    (told_at (entry number 0) (entries_in index) (halved (length index / 14) (entry number 0) (entries_in index) 0 (length index / 14)))
    (length index / 14)

unfoldable pub find_refusal : List ℕ → List ℕ → Refusal
find_refusal file number =
    or_else (file_refusal file)
    (gate (number_formed number && ltb (first_with number (images_in file)) (count_in file)) (refuse 44 0 0) none)

unfoldable pub find_answer : List ℕ → List ℕ → Answer
find_answer file number = answered (find_refusal file number) (first_with number (images_in file))

-- ---- adding a card at the end
-- 43, 45: of a file of so many cards, where one more comes into a room of this size
unfoldable pub more_refusal : ℕ → ℕ → Refusal
more_refusal count size = gate (ltb count most_cards) (refuse 43 0 0) (gate (leb (size_of (count + 1)) size) (refuse 45 0 0) none)

unfoldable pub add_refusal : List ℕ → List ℕ → ℕ → Refusal
add_refusal file card size =
    or_else (file_refusal file)
    (gate (ltb (count_in file) most_cards) (refuse 43 0 0)
    (gate (leb (size_of (count_in file + 1)) size) (refuse 45 0 0)
    (gate (is_card card) (refuse 41 (count_in file) 0) none)))

unfoldable pub add_answer : List ℕ → List ℕ → List ℕ → Answer
add_answer file card room = answered (add_refusal file card (length room)) (size_of (count_in file + 1))

unfoldable pub add_room : List ℕ → List ℕ → List ℕ → List ℕ
add_room file card room = room_after (add_refusal file card (length room)) (file_of (images_in file ++ (card ∷ []))) room

-- ---- building a file afresh, from images laid end to end
unfoldable pub laid_images : List ℕ → List (List ℕ)
laid_images bytes = pieces 256 (length bytes / 256) bytes

-- 41, 43; and the index of at most 200 images, in a room
unfoldable pub laid_refusal : List ℕ → Refusal
laid_refusal bytes = or_else (cards_refusal 0 (laid_images bytes)) (gate (leb (length bytes / 256) most_cards) (refuse 43 0 0) none)

unfoldable pub laid_room : List ℕ → List ℕ → List ℕ
laid_room bytes room = cond (leb (length bytes / 256) most_cards) (index_room 0 (laid_images bytes) room) room

-- 45: so many images in a room of this size
unfoldable pub room_refusal : ℕ → ℕ → Refusal
room_refusal count size = gate (leb (size_of count) size) (refuse 45 0 0) none

unfoldable pub build_refusal : List ℕ → ℕ → Refusal
build_refusal bytes size =
    gate (eqb (length bytes % 256) 0) (refuse 40 0 0)
    (or_else (cards_refusal 0 (laid_images bytes))
    (gate (leb (length bytes / 256) most_cards) (refuse 43 0 0)
    (gate (leb (size_of (length bytes / 256)) size) (refuse 45 0 0) none)))

unfoldable pub build_answer : List ℕ → List ℕ → Answer
build_answer bytes room = answered (build_refusal bytes (length room)) (size_of (length bytes / 256))

unfoldable pub build_room : List ℕ → List ℕ → List ℕ
build_room bytes room = room_after (build_refusal bytes (length room)) (file_of (laid_images bytes)) room
