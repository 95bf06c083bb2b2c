-- A comparison as eight bytes: the card, 1 or 2; start and length of the family name in that image; 0; the months, signed, high byte first.
use Rattle.std.specs.Prelude.{ℕ, suc, ◌-◌, ◌/◌, ◌%◌, ◌^◌, cond, List, [], ◌∷◌, eqb, ℤ, pos, negsuc, length}
use Rattle.fresher.specs.declared.Fresher.{Fresher}

-- a signed number in 32 bits
abbrev pub twos : ℤ → ℕ
twos (pos n) = n
twos (negsuc n) = 2 ^ 32 - suc n

abbrev pub high_first : ℕ → List ℕ
high_first n = n / 2 ^ 24 ∷ n / 2 ^ 16 % 256 ∷ n / 2 ^ 8 % 256 ∷ n % 256 ∷ []

unfoldable pub fresher_bytes : Fresher → List ℕ
fresher_bytes f = cond f.second 2 1 ∷ f.start ∷ f.length ∷ 0 ∷ high_first (twos f.months)

-- a room of another size is left as it is
unfoldable pub fresher_room : Fresher → List ℕ → List ℕ
fresher_room f room = cond (eqb (length room) 8) (fresher_bytes f) room
