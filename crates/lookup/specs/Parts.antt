-- What a table of places tells of an image, whichever image and table are asked.
use Rattle.std.specs.Prelude.{ℕ, ◌+◌, Bool, cond, not, List, [], leb, eqb, length, take, drop, get_or}
use Rattle.card.specs.declared.Places.{Places}

-- an object is there where the table has a length for it
abbrev pub is_there : Places → ℕ → Bool
is_there t k = not (eqb (get_or t.lengths k 0) 0)

-- the n bytes from `start` on, where there are so many; else none
unfoldable pub within : List ℕ → ℕ → ℕ → List ℕ
within s start n = cond (leb (start + n) (length s)) (take n (drop start s)) []

-- the part of an image at row k's place
abbrev pub part_at : List ℕ → Places → ℕ → List ℕ
part_at s t k = within s (get_or t.starts k 0) (get_or t.lengths k 0)
