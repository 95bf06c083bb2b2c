-- The letters of DIN 66003 in UTF-8.
use Rattle.std.specs.Prelude.{ℕ, Bool, true, cond, not, ◌&&◌, List, [], ◌∷◌, ◌++◌, eqb, leb}

-- eight bytes of DIN 66003 are other letters than in ASCII; in UTF-8 they have two bytes, of which the second tells them apart
-- (§ Ä Ö Ü ä ö ü ß, in this order)
abbrev pub second_of : ℕ → ℕ
second_of b =
    cond (eqb b 0x40) 0xA7 (cond (eqb b 0x5B) 0x84 (cond (eqb b 0x5C) 0x96 (cond (eqb b 0x5D) 0x9C
    (cond (eqb b 0x7B) 0xA4 (cond (eqb b 0x7C) 0xB6 (cond (eqb b 0x7D) 0xBC (cond (eqb b 0x7E) 0x9F 0)))))))

-- the first of the two: 'C2' for §, 'C3' for the others
abbrev pub first_of : ℕ → ℕ
first_of b = cond (eqb b 0x40) 0xC2 0xC3

-- a printable byte of the code has a letter
abbrev pub has_letter : ℕ → Bool
has_letter b = leb 0x20 b && leb b 0x7E

-- the letter of such a byte in UTF-8
unfoldable pub letter : ℕ → List ℕ
letter b = cond (eqb (second_of b) 0) (b ∷ []) (first_of b ∷ second_of b ∷ [])

-- bytes of the code in UTF-8
unfoldable pub utf8 : List ℕ → List ℕ
utf8 [] = []
utf8 (b ∷ bs) = letter b ++ utf8 bs

-- each of some bytes has a letter
unfoldable pub have_letters : List ℕ → Bool
have_letters [] = true
have_letters (b ∷ bs) = has_letter b && have_letters bs
