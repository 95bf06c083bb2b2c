-- A card of a day, and its entry in the index.
use Rattle.std.specs.Prelude.{ℕ, ◌/◌, ◌%◌, Bool, List, [], ◌∷◌, ◌++◌, eqb, get_or, take, replicate}
use Rattle.edition.specs.Tables.{terminal}
use Rattle.card.specs.Content.{content_of}
use Rattle.card.specs.Reading.{reading}

-- every image is read under terminal
unfoldable pub is_card : List ℕ → Bool
is_card image = eqb (reading terminal image).refusal.number 0

-- the insured number, which is row 3
unfoldable pub number_of : List ℕ → List ℕ
number_of image = get_or (content_of (reading terminal image).content).values 3 []

-- the insured number, padded on the right with blanks to 12
unfoldable pub padded : List ℕ → List ℕ
padded number = take 12 (number ++ replicate 12 0x20)

-- two bytes, high first
abbrev pub two_bytes : ℕ → List ℕ
two_bytes n = n / 256 ∷ n % 256 ∷ []

-- an index entry: the padded number, and the position as two bytes
unfoldable pub entry : List ℕ → ℕ → List ℕ
entry number position = padded number ++ two_bytes position
