-- What stands around the objects, by address: where the fixed bytes are wrong, the template's extent, and where the filler is wrong.
use Rattle.std.specs.Prelude.{ℕ, ◌+◌, ◌-◌, cond, ◌&&◌, List, [], ◌∷◌, ◌++◌, leb, eqb, length, take, drop, get_or}
use Rattle.ground.specs.Lists.{agree}
use Rattle.lengths.specs.declared.ToldLength.{ToldLength}
use Rattle.card.specs.declared.LengthField.{LengthField}
use Rattle.card.specs.declared.LengthField.TheVariants.{One, Two, Other, Cut}
use Rattle.lengths.specs.Lengths.{length_field}
use Rattle.card.specs.Fields.{length_at, field_told}
use Rattle.card.specs.Layout.{head, spaces, filler}

-- the free bytes, 6 to 16 and 29
unfoldable pub free_of : List ℕ → List ℕ
free_of s = take 11 (drop 6 s) ++ (get_or s 29 0 ∷ [])

-- 3: the first address below 30 whose byte is not as it must be; 30 where all are
unfoldable pub head_end : List ℕ → ℕ
head_end s = agree (head (get_or s 0 0) (free_of s)) (take 30 s)

-- 4: where the length field is wrong; 0 where it is right: 70 to 127 in one byte, 128 to 212 behind '81'
unfoldable pub field_wrong : LengthField → ℕ
field_wrong (One n) = cond (leb 70 n) 0 31
field_wrong (Two n) = cond (leb 128 n && leb n 212) 0 32
field_wrong (Other b) = 31
field_wrong Cut = 31

-- the same place by the answer of the piece that reads lengths up to 65,535, and the field's first byte
abbrev pub wrong_by : ToldLength → ℕ → ℕ
wrong_by field first =
    cond (eqb field.used 1) (cond (leb 70 field.length) 0 31)
    (cond (eqb field.used 2) (cond (leb field.length 212) 0 32) (cond (eqb first 0x81) 32 31))

abbrev pub field_of : List ℕ → LengthField
field_of s = length_at (drop 31 s)

-- where the objects start, and the address behind the template
unfoldable pub start_of : List ℕ → ℕ
start_of s = 31 + (field_told (field_of s)).used

unfoldable pub end_of : List ℕ → ℕ
end_of s = start_of s + (field_told (field_of s)).length

-- the template's bytes behind the length field: the objects, that of the checksum last
abbrev pub objects_in : List ℕ → List ℕ
objects_in s = take (field_told (field_of s)).length (drop (start_of s) s)

-- the first address from the template's end on whose byte is not as it must be; 256 where all are
unfoldable pub tail_end : List ℕ → ℕ
tail_end s = end_of s + agree (filler (255 - end_of s) (get_or s 255 0)) (drop (end_of s) s)

-- 14 to 17: the number of the part in which the byte lies that stands so many bytes behind the start of a filler, where t is 255 less its
-- start: the filler's tag, its length bytes in the form due, a filler value byte, the byte or bytes after it
unfoldable pub tail_part : ℕ → ℕ → ℕ
tail_part t at =
    cond (eqb at 0) 14
    (cond (leb at (length (length_field (spaces t)))) 15
    (cond (leb at (length (length_field (spaces t)) + spaces t)) 16 17))
