-- A length: one byte up to 127; '81' and one byte up to 255; '82' and two bytes, high byte first, up to 65,535.
use Rattle.std.specs.Prelude.{ℕ, ◌+◌, ◌*◌, ◌/◌, ◌%◌, cond, List, [], ◌∷◌, leb, eqb, Result, Ok, Err}
use Rattle.lengths.specs.declared.Field.{Field}
use Rattle.lengths.specs.declared.FieldError.{FieldError}
use Rattle.lengths.specs.declared.FieldError.TheVariants.{Other, Cut, Long}
use Rattle.lengths.specs.declared.ToldLength.{ToldLength}

-- the bytes of a length, in the shortest form
unfoldable pub length_field : ℕ → List ℕ
length_field n = cond (leb n 127) (n ∷ []) (cond (leb n 255) (0x81 ∷ n ∷ []) (0x82 ∷ n / 256 ∷ n % 256 ∷ []))

-- a field was read: what it says, and how many bytes it takes
abbrev pub read : ℕ → ℕ → Result Field FieldError
read n used = Ok (record { length = n; used = used })

-- what the field at the head of some bytes says, or what is amiss with it
abbrev pub behind81 : List ℕ → Result Field FieldError
behind81 [] = Err Cut
behind81 (n ∷ bs) = cond (leb n 127) (Err Long) (read n 2)

abbrev pub behind82 : List ℕ → Result Field FieldError
behind82 [] = Err Cut
behind82 (high ∷ []) = Err Cut
behind82 (high ∷ low ∷ bs) = cond (eqb high 0) (Err Long) (read (high * 256 + low) 3)

unfoldable pub length_read : List ℕ → Result Field FieldError
length_read [] = Err Cut
length_read (b ∷ bs) = cond (leb b 127) (read b 1) (cond (eqb b 0x81) (behind81 bs) (cond (eqb b 0x82) (behind82 bs) (Err Other)))

-- 70 another first byte, 71 cut short or no byte at all, 72 a longer form than needed
abbrev pub number_of : FieldError → ℕ
number_of Other = 70
number_of Cut = 71
number_of Long = 72

-- the answer in numbers: a refusal's number or 0, the length, the bytes used; the last two are 0 with a refusal
abbrev pub length_told : Result Field FieldError → ToldLength
length_told (Ok field) = record { number = 0; length = field.length; used = field.used }
length_told (Err e) = record { number = number_of e; length = 0; used = 0 }
