-- The exact differences of two contents: tag by tag in card order, then address 0, each free byte and the last byte by address.
use Rattle.std.specs.Prelude.{ℕ, cond, List, [], ◌∷◌, ◌++◌, eqb, length}
use Rattle.ground.specs.Lists.{agree}
use Rattle.card.specs.Content.{Content}
use Rattle.card.specs.Layout.{object_tags}

-- an entry: a tag whose object is absent in one, whose lengths differ, or with the first differing index; or an address
pub data Difference : Type 0 where
  absent-in-first : ℕ → Difference
  absent-in-second : ℕ → Difference
  lengths_differ : ℕ → Difference
  index-differs : ℕ → ℕ → Difference
  byte-differs : ℕ → Difference

-- of two values that are there
unfoldable pub of_present : ℕ → List ℕ → List ℕ → List Difference
of_present tag v w =
    cond (eqb (length v) (length w)) (cond (eqb (agree v w) (length v)) [] (index-differs tag (agree v w) ∷ [])) (lengths_differ tag ∷ [])

-- of the two values of a tag
unfoldable pub of_values : ℕ → List ℕ → List ℕ → List Difference
of_values tag [] [] = []
of_values tag [] (c ∷ w) = absent-in-first tag ∷ []
of_values tag (b ∷ v) [] = absent-in-second tag ∷ []
of_values tag (b ∷ v) (c ∷ w) = of_present tag (b ∷ v) (c ∷ w)

-- of the two bytes of an address
unfoldable pub of_bytes : ℕ → ℕ → ℕ → List Difference
of_bytes address b c = cond (eqb b c) [] (byte-differs address ∷ [])

-- two lists side by side, each pair of elements by its name
unfoldable pub along : {A : Type 0} → (ℕ → A → A → List Difference) → List ℕ → List A → List A → List Difference
along f [] vs ws = []
along f (n ∷ ns) [] ws = []
along f (n ∷ ns) (v ∷ vs) [] = []
along f (n ∷ ns) (v ∷ vs) (w ∷ ws) = f n v w ++ along f ns vs ws

-- the free bytes, 6 to 16 and 29
abbrev pub free_addresses : List ℕ
free_addresses = 6 ∷ 7 ∷ 8 ∷ 9 ∷ 10 ∷ 11 ∷ 12 ∷ 13 ∷ 14 ∷ 15 ∷ 16 ∷ 29 ∷ []

-- address 0, each free byte, the last byte
unfoldable pub addresses : List ℕ
addresses = 0 ∷ (free_addresses ++ (255 ∷ []))

unfoldable pub bytes_of : Content → List ℕ
bytes_of c = c.first ∷ (c.free ++ (c.last ∷ []))

unfoldable pub differences_of : Content → Content → List Difference
differences_of c d = along of_values object_tags c.values d.values ++ along of_bytes addresses (bytes_of c) (bytes_of d)
