-- A table of places is 32 bytes: the start and the length of each of the sixteen objects.
use Rattle.std.specs.Prelude.{ℕ, cond, List, [], ◌∷◌, eqb, length}
use Rattle.card.specs.declared.Places.{Places}

-- the numbers of two lists in turn
unfoldable pub paired : List ℕ → List ℕ → List ℕ
paired [] ns = []
paired (m ∷ ms) [] = []
paired (m ∷ ms) (n ∷ ns) = m ∷ n ∷ paired ms ns

abbrev pub places_bytes : Places → List ℕ
places_bytes t = paired t.starts t.lengths

-- a room of another size is left as it is
unfoldable pub places_room : Places → List ℕ → List ℕ
places_room t room = cond (eqb (length room) 32) (places_bytes t) room
