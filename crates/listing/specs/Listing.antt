-- The text of a reading: `ACCEPTED` and a line for each object that is present, or one line `REFUSED number place TAG shortest longest`.
use Rattle.std.specs.Prelude.{ℕ, cond, List, [], ◌∷◌, ◌++◌, eqb}
use Rattle.ground.specs.Rooms.{hex, decimal}
use Rattle.card.specs.declared.Refusal.{Refusal}
use Rattle.card.specs.Content.{content_of}
use Rattle.card.specs.Layout.{object_tags}
use Rattle.card.specs.declared.Reading.{Reading}

-- a line has the tag, a blank and the value's bytes as they stand; an absent object has none
unfoldable pub object_line : ℕ → List ℕ → List ℕ
object_line tag [] = []
object_line tag (b ∷ v) = hex tag ++ (0x20 ∷ (b ∷ v) ++ (0x0A ∷ []))

unfoldable pub object_lines : List ℕ → List (List ℕ) → List ℕ
object_lines ts [] = []
object_lines [] (v ∷ vs) = []
object_lines (t ∷ ts) (v ∷ vs) = object_line t v ++ object_lines ts vs

-- `ACCEPTED`
abbrev pub accepted_word : List ℕ
accepted_word = 0x41 ∷ 0x43 ∷ 0x43 ∷ 0x45 ∷ 0x50 ∷ 0x54 ∷ 0x45 ∷ 0x44 ∷ []

-- `REFUSED`
abbrev pub refused_word : List ℕ
refused_word = 0x52 ∷ 0x45 ∷ 0x46 ∷ 0x55 ∷ 0x53 ∷ 0x45 ∷ 0x44 ∷ []

abbrev pub blank : List ℕ → List ℕ
blank word = 0x20 ∷ word

-- number, place and tag; and the ends of the row's length set
unfoldable pub cause : Refusal → List ℕ
cause x = blank (decimal x.number) ++ (blank (decimal x.place) ++ blank (hex x.tag))

unfoldable pub ends : Refusal → List ℕ
ends x = blank (decimal x.shortest) ++ (blank (decimal x.longest) ++ (0x0A ∷ []))

unfoldable pub refused_line : Refusal → List ℕ
refused_line x = refused_word ++ (cause x ++ ends x)

-- the text of a refusal and sixteen values; the number 0 says that nothing is refused
unfoldable pub listing : Refusal → List (List ℕ) → List ℕ
listing x vs = cond (eqb x.number 0) (accepted_word ++ (0x0A ∷ object_lines object_tags vs)) (refused_line x)

abbrev pub listing_of : Reading → List ℕ
listing_of r = listing r.refusal (content_of r.content).values
