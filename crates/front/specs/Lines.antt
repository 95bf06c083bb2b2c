-- The four lines of a card's front, after 001, section 2.2.3.
use Rattle.std.specs.Prelude.{ℕ, ◌-◌, Bool, cond, List, [], ◌∷◌, ◌++◌, leb, eqb, length, get_or, take, replicate}
use Rattle.ground.specs.Lists.{among}
use Rattle.ground.specs.Pieces.{joined}
use Rattle.card.specs.Content.{Content}

-- a value by its row: 0 fund name, 1 fund number, 3 insured number, 4 status, 5 status addition, 6 title, 7 given name,
-- 8 name prefix, 9 family name, 15 validity
abbrev pub value : Content → ℕ → List ℕ
value c k = get_or c.values k []

-- ---- what is printed of an addition: of one of the eighteen single signs its printed sign, of anything else nothing
-- M A K E D S to 1; X C L N F P to 9; 1 9 4 6 7 8 stay
abbrev pub to_one : List ℕ
to_one = 0x4D ∷ 0x41 ∷ 0x4B ∷ 0x45 ∷ 0x44 ∷ 0x53 ∷ []

abbrev pub to_nine : List ℕ
to_nine = 0x58 ∷ 0x43 ∷ 0x4C ∷ 0x4E ∷ 0x46 ∷ 0x50 ∷ []

abbrev pub stay : List ℕ
stay = 0x31 ∷ 0x39 ∷ 0x34 ∷ 0x36 ∷ 0x37 ∷ 0x38 ∷ []

unfoldable pub sign_of : ℕ → List ℕ
sign_of b = cond (among b to_one) (0x31 ∷ []) (cond (among b to_nine) (0x39 ∷ []) (cond (among b stay) (b ∷ []) []))

unfoldable pub addition_sign : List ℕ → List ℕ
addition_sign [] = []
addition_sign (b ∷ []) = sign_of b
addition_sign (b ∷ d ∷ v) = []

-- ---- what is printed of a status: the first place only, if the second is 0 or absent
unfoldable pub status_shown : List ℕ → List ℕ
status_shown v = cond (eqb (get_or v 1 0x30) 0x30) (take 1 v) v

-- ---- the names
-- a part behind others, with a single blank between; a part that is missing leaves no blank
unfoldable pub spaced : List ℕ → List ℕ → List ℕ
spaced a [] = a
spaced [] (y ∷ b) = y ∷ b
spaced (x ∷ a) (y ∷ b) = x ∷ a ++ (0x20 ∷ y ∷ b)

-- title, given name and name prefix
abbrev pub forenames : Content → List ℕ
forenames c = spaced (spaced (value c 6) (value c 7)) (value c 8)

-- the names go on one line if all parts with single blanks make at most 28, else the family name goes on the second
abbrev pub on_one_line : List ℕ → List ℕ → Bool
on_one_line names family = leb (length (spaced names family)) 28

unfoldable pub first_of : List ℕ → List ℕ → List ℕ
first_of names family = cond (on_one_line names family) (spaced names family) names

unfoldable pub second_of : List ℕ → List ℕ → List ℕ
second_of names family = cond (on_one_line names family) [] family

-- ---- the lines
-- n places, left aligned, blank filled
unfoldable pub field : ℕ → List ℕ → List ℕ
field n v = v ++ replicate (n - length v) 0x20

unfoldable pub name_line : Content → List ℕ
name_line c = field 28 (first_of (forenames c) (value c 9))

unfoldable pub family_line : Content → List ℕ
family_line c = field 28 (second_of (forenames c) (value c 9))

-- fund number 1-7, insured number 8-19, status 20-23, addition 24, validity 25-28
unfoldable pub number_line : Content → List ℕ
number_line c =
    field 7 (value c 1)
    ++ (field 12 (value c 3)
    ++ (field 4 (status_shown (value c 4))
    ++ (field 1 (addition_sign (value c 5))
    ++ field 4 (value c 15))))

-- with the fund name it is line 3; without, line 1 is blank and the names are on 2 and 3
unfoldable pub lines_of : Bool → Content → List (List ℕ)
lines_of fund c =
    cond fund (name_line c ∷ family_line c ∷ field 28 (value c 0) ∷ number_line c ∷ [])
    (field 28 [] ∷ name_line c ∷ family_line c ∷ number_line c ∷ [])

-- one behind the other
abbrev pub end_to_end : List (List ℕ) → List ℕ
end_to_end = joined (λ (line : List ℕ). line)
