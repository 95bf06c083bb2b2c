-- What a line speaks of, and what it says. A key is a number: 0 to 15 the objects in card order, 16 address 0, 17 the free bytes, 18 the last byte,
-- 19 the checksum, which no line may set; 20 a line that names none of them, 21 one that is blank or a remark.
use Rattle.std.specs.Prelude.{ℕ, ◌+◌, Bool, cond, not, List, [], ◌∷◌, map, eqb, ltb, length, get_or, take, drop}
use Prim.Native.Char.{code}
use Prim.Native.String.{String, [] as no_more, ◌∷◌ as ◌thens◌}
use Rattle.ground.specs.Lists.{leading, same_list}
use Rattle.card_lines.specs.Lines.{before, trimmed}

-- the bytes of a quoted word
abbrev bytes : String → List ℕ
bytes no_more = []
bytes (c thens s) = code c ∷ bytes s

-- the names in the order of their keys
unfoldable pub names : List (List ℕ)
names =
    map bytes
    ("fund name" ∷ "fund number" ∷ "office code" ∷ "insured number" ∷ "status" ∷ "status addition" ∷ "title" ∷ "given name" ∷ "name prefix"
    ∷ "family name" ∷ "birth date" ∷ "street" ∷ "country" ∷ "postal code" ∷ "town" ∷ "validity"
    ∷ "address 0" ∷ "free bytes" ∷ "last byte" ∷ "checksum" ∷ [])

-- the tags; what has no tag has its name here too
unfoldable pub tags : List (List ℕ)
tags =
    map bytes
    ("80" ∷ "81" ∷ "8F" ∷ "82" ∷ "83" ∷ "90" ∷ "84" ∷ "85" ∷ "86" ∷ "87" ∷ "88" ∷ "89" ∷ "8A" ∷ "8B" ∷ "8C" ∷ "8D"
    ∷ "address 0" ∷ "free bytes" ∷ "last byte" ∷ "8E" ∷ [])

abbrev pub name_of : ℕ → List ℕ
name_of key = get_or names key []

-- the place of a name in a list; where it is not there, how many the list has
abbrev pub other_name : List ℕ → List ℕ → Bool
other_name name l = not (same_list l name)

abbrev pub place_of : List (List ℕ) → List ℕ → ℕ
place_of list name = leading (other_name name) list

unfoldable pub key_named : List ℕ → ℕ
key_named name = cond (ltb (place_of names name) 20) (place_of names name) (place_of tags name)

-- the key of a line without blanks at its head: its name or tag ends at the first colon
unfoldable pub key_trimmed : List ℕ → ℕ
key_trimmed line =
    cond (eqb (length line) 0) 21
    (cond (eqb (get_or line 0 0) 0x23) 21
    (cond (ltb (before 0x3A line) (length line)) (key_named (take (before 0x3A line) line)) 20))

abbrev pub key_of : List ℕ → ℕ
key_of line = key_trimmed (trimmed line)

-- what stands behind the first colon, without one blank at its head
unfoldable pub behind_colon : List ℕ → List ℕ
behind_colon line = drop (before 0x3A line + 1) line

unfoldable pub behind_blank : List ℕ → List ℕ
behind_blank part = cond (eqb (get_or part 0 0) 0x20) (drop 1 part) part

abbrev pub value_in : List ℕ → List ℕ
value_in line = behind_blank (behind_colon (trimmed line))
