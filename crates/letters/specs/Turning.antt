-- Bytes of DIN 66003 turned into UTF-8 and back, as far as there are letters and room for them.
use Rattle.std.specs.Prelude.{ℕ, ◌-◌, Bool, cond, not, ◌&&◌, ◌||◌, List, [], ◌∷◌, eqb, leb, length, take}
use Rattle.letters.specs.declared.Turned.{Turned}
use Rattle.letters.specs.Letters.{second_of, has_letter, letter, utf8}

-- ---- from the code to UTF-8: the bytes at the head that have letters, and whose letters fit into n bytes
unfoldable pub spelled : ℕ → List ℕ → List ℕ
spelled n [] = []
spelled n (b ∷ bs) = cond (has_letter b && leb (length (letter b)) n) (b ∷ spelled (n - length (letter b)) bs) []

-- ---- from UTF-8 to the code
-- a byte that is a letter by itself
abbrev pub is_plain : ℕ → Bool
is_plain x = has_letter x && eqb (second_of x) 0

-- the first byte of a letter of two
abbrev pub is_first : ℕ → Bool
is_first x = eqb x 0xC2 || eqb x 0xC3

-- the byte of the code whose letter has these two bytes; 0 where there is none
abbrev pub behind_c3 : ℕ → ℕ
behind_c3 x =
    cond (eqb x 0x84) 0x5B (cond (eqb x 0x96) 0x5C (cond (eqb x 0x9C) 0x5D (cond (eqb x 0xA4) 0x7B
    (cond (eqb x 0xB6) 0x7C (cond (eqb x 0xBC) 0x7D (cond (eqb x 0x9F) 0x7E 0))))))

abbrev pub behind_c2 : ℕ → ℕ
behind_c2 x = cond (eqb x 0xA7) 0x40 0

abbrev pub pair_of : ℕ → ℕ → ℕ
pair_of p x = cond (eqb p 0xC3) (behind_c3 x) (behind_c2 x)

-- the byte of the code for a letter that ends with x; p is the letter's first byte where it has two, and else 0
abbrev pub byte_for : ℕ → ℕ → ℕ
byte_for p x = cond (eqb p 0) (cond (is_plain x) x 0) (pair_of p x)

-- the bytes of the code for the letters at the head of a text, up to the first letter that the code lacks; p is the first byte of
-- a letter of two that has been begun, or 0
unfoldable pub code_from : ℕ → List ℕ → List ℕ
code_from p [] = []
code_from p (x ∷ xs) =
    cond (eqb (byte_for p x) 0)
    (cond (eqb p 0 && is_first x) (code_from x xs) [])
    (byte_for p x ∷ code_from 0 xs)

abbrev pub code : List ℕ → List ℕ
code text = code_from 0 text

-- ---- the answers: how many bytes were turned, and how many bytes they became
abbrev pub spelled_answer : List ℕ → List ℕ → Turned
spelled_answer room bytes = record {
  taken = length (spelled (length room) bytes);
  made = length (utf8 (spelled (length room) bytes));
}

abbrev pub coded_answer : List ℕ → List ℕ → Turned
coded_answer room text = record {
  taken = length (utf8 (take (length room) (code text)));
  made = length (take (length room) (code text));
}
