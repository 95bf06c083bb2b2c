-- The file of a day: the images in order of reading, the index, and a trailer that points back.
use Rattle.std.specs.Prelude.{ℕ, suc, ◌+◌, ◌-◌, ◌*◌, ◌/◌, ◌%◌, ◌^◌, ◌≤◌, ◌≡◌, Bool, true, cond, ◌&&◌, List, [], ◌∷◌, ◌++◌, map, eqb, leb, length, get_or, take, drop}
use Rattle.std.proofs.lemmas.List.Edits.{sets}
use Rattle.card.specs.declared.Refusal.{Refusal}
use Rattle.card.specs.Layout.{xor_all}
use Rattle.card.specs.Refusals.{refuse, none, gate, or_else}
use Rattle.ground.specs.Pieces.{pieces}
use Rattle.ground.specs.Lists.{same_list}
use Rattle.day_index.specs.Order.{flat, room_with_entry}
use Rattle.day.specs.Cards.{is_card, number_of, two_bytes, entry}
use Rattle.day.specs.Index.{index_of}

-- ---- the file of some images
unfoldable pub index_bytes : List (List ℕ) → List ℕ
index_bytes images = flat (index_of (map number_of images))

abbrev pub four_bytes : ℕ → List ℕ
four_bytes n = n / 2 ^ 24 ∷ n / 2 ^ 16 % 256 ∷ n / 2 ^ 8 % 256 ∷ n % 256 ∷ []

-- where the index starts, the count, the exclusive or of the index, and 01
unfoldable pub trailer : ℕ → List ℕ → List ℕ
trailer count index = four_bytes (count * 256) ++ (two_bytes count ++ (xor_all index ∷ 1 ∷ []))

unfoldable pub file_of : List (List ℕ) → List ℕ
file_of images = flat images ++ (index_bytes images ++ trailer (length images) (index_bytes images))

abbrev pub most_cards : ℕ
most_cards = 200

-- the bytes of a file of so many images
abbrev pub size_of : ℕ → ℕ
size_of count = count * 270 + 8

-- some bytes are a day file: they are the file of some images, at most 200, each of which is accepted
pub data Cards : List (List ℕ) → Type 0 where
  no-cards : Cards []
  one-card : {x : List ℕ} {xs : List (List ℕ)} → is_card x ≡ true → Cards xs → Cards (x ∷ xs)

pub record DayFile (file : List ℕ) : Type 0 where
  pub images : List (List ℕ)
  pub cards : Cards images
  pub most : length images ≤ most_cards
  pub drawn : file_of images ≡ file

-- ---- what stands in some bytes
-- the count, in the trailer
abbrev pub count_in : List ℕ → ℕ
count_in file = get_or file (length file - 4) 0 * 256 + get_or file (length file - 3) 0

unfoldable pub images_in : List ℕ → List (List ℕ)
images_in file = pieces 256 (count_in file) file

abbrev pub index_in : List ℕ → List ℕ
index_in file = take (count_in file * 14) (drop (count_in file * 256) file)

-- length, count and trailer fit
unfoldable pub fits : List ℕ → Bool
fits file =
    leb 8 (length file) && (leb (count_in file) most_cards
    && (eqb (length file) (size_of (count_in file)) && same_list (drop (count_in file * 270) file) (trailer (count_in file) (index_in file))))

-- 41: the first image that is refused, of those from position k on
unfoldable pub cards_refusal : ℕ → List (List ℕ) → Refusal
cards_refusal k [] = none
cards_refusal k (x ∷ xs) = gate (is_card x) (refuse 41 k 0) (cards_refusal (suc k) xs)

-- a room in which the entry of each image is put among those before it, from position k on up to the first that is refused
unfoldable pub index_room : ℕ → List (List ℕ) → List ℕ → List ℕ
index_room k [] room = room
index_room k (x ∷ xs) room = cond (is_card x) (index_room (suc k) xs (room_with_entry (entry (number_of x) k) k room)) room

-- a room with an index and its trailer behind so many images; the same room where there are too many, or the index or the room has another size
unfoldable pub closed : ℕ → List ℕ → List ℕ → List ℕ
closed count index room =
    cond (leb count most_cards && (eqb (length index) (count * 14) && leb (size_of count) (length room))) (sets room (count * 256) (index ++ trailer count index)) room

-- 40, 41, 42
unfoldable pub file_refusal : List ℕ → Refusal
file_refusal file =
    gate (fits file) (refuse 40 0 0)
    (or_else (cards_refusal 0 (images_in file))
    (gate (same_list (index_in file) (index_bytes (images_in file))) (refuse 42 0 0) none))
