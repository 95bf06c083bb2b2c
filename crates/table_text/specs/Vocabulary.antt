-- The words of a table's text, in document 01's words; a blank within a name is a minus sign here.
use Rattle.std.specs.Prelude.{ℕ, List, [], ◌∷◌, map, get_or}
use Prim.Native.Char.{code}
use Prim.Native.String.{String, [] as no_more, ◌∷◌ as ◌before◌}

-- the bytes of a quoted word
abbrev pub bytes : String → List ℕ
bytes no_more = []
bytes (c before s) = code c ∷ bytes s

-- the names of the rows in card order
abbrev names : List String
names =
    "fund-name" ∷ "fund-number" ∷ "office-code" ∷ "insured-number" ∷ "status" ∷ "status-addition" ∷ "title" ∷ "given-name" ∷ "name-prefix"
    ∷ "family-name" ∷ "birth-date" ∷ "street" ∷ "country" ∷ "postal-code" ∷ "town" ∷ "validity" ∷ "checksum"
    ∷ "required" ∷ "optional"
    ∷ "digits" ∷ "text" ∷ "lead" ∷ "code" ∷ "birth" ∷ "expiry" ∷ "raw" ∷ "text-not-d"
    ∷ "edition" ∷ "none" ∷ []

-- all words: the names, 17 required, 18 optional, 19 to 26 the rules, 27 edition, 28 none
unfoldable pub vocabulary : List (List ℕ)
vocabulary = map bytes names

abbrev pub word_of : ℕ → List ℕ
word_of i = get_or vocabulary i []

-- where each word starts in the string of all words
unfoldable pub starts : List ℕ
starts =
    0x00 ∷ 0x09 ∷ 0x14 ∷ 0x1F ∷ 0x2D ∷ 0x33 ∷ 0x42 ∷ 0x47 ∷ 0x51 ∷ 0x5C ∷ 0x67 ∷ 0x71 ∷ 0x77 ∷ 0x7E ∷ 0x89 ∷ 0x8D ∷ 0x95 ∷ 0x9D ∷ 0xA5
    ∷ 0xAD ∷ 0xB3 ∷ 0xB7 ∷ 0xBB ∷ 0xBF ∷ 0xC4 ∷ 0xCA ∷ 0xCD ∷ 0xD7 ∷ 0xDE ∷ 0xE2 ∷ []

abbrev pub start_of : ℕ → ℕ
start_of i = get_or starts i 0
