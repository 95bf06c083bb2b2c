-- What is wrong with a text: a line with no name, an earlier line that speaks of the same, a letter that DIN 66003 lacks, not the hex digits that are
-- due, the checksum, which is computed.
use Rattle.std.specs.Prelude.{ℕ, suc, cond, List, [], ◌∷◌, Option, Some, None, unwrap_or, eqb, ltb, length, take}
use Rattle.letters.specs.Letters.{utf8}
use Rattle.letters.specs.Turning.{code}
use Rattle.card_lines.specs.Lines.{lines}
use Rattle.card_lines.specs.Keys.{key_of, value_in}
use Rattle.card_text.specs.declared.Wrong.{Wrong}
use Rattle.card_text.specs.declared.Wrong.TheVariants.{Name, Again, Letter, Digits, Checksum}
use Rattle.card_text.specs.declared.Fault.{Fault}
use Rattle.card_text.specs.Entries.{line_of}
use Rattle.card_text.specs.Hex.{is_hex}

-- the bytes for the letters of a value, of which 255 are counted
unfoldable pub coded : List ℕ → List ℕ
coded value = take 255 (code value)

-- how many bytes of a value are letters of the code; behind 255 letters none is looked at
unfoldable pub letters_taken : List ℕ → ℕ
letters_taken value = cond (eqb (length (coded value)) 255) (length value) (length (utf8 (coded value)))

-- the free bytes are 24 hex digits, another byte is two
abbrev pub digits_due : ℕ → ℕ
digits_due key = cond (eqb key 17) 24 2

-- an object's value is letters, another one hex digits
unfoldable pub fault_of_value : ℕ → List ℕ → Option Wrong
fault_of_value key value =
    cond (ltb key 16)
    (cond (ltb (letters_taken value) (length value)) (Some Letter) None)
    (cond (is_hex value (digits_due key)) None (Some Digits))

-- the n-th line of a text
unfoldable pub fault_of_line : List ℕ → List ℕ → ℕ → Option Wrong
fault_of_line text line n =
    cond (eqb (key_of line) 21) None
    (cond (eqb (key_of line) 20) (Some Name)
    (cond (eqb (key_of line) 19) (Some Checksum)
    (cond (ltb (unwrap_or (line_of (key_of line) text) 0) n) (Some Again) (fault_of_value (key_of line) (value_in line)))))

abbrev pub fault_at : Wrong → ℕ → List ℕ → Fault
fault_at wrong n line = record { wrong = wrong; line = n; key = key_of line; place = letters_taken (value_in line) }

-- the fault of a line, or what is found behind it
abbrev pub fault_or : Option Wrong → ℕ → List ℕ → Option Fault → Option Fault
fault_or (Some wrong) n line behind = Some (fault_at wrong n line)
fault_or None n line behind = behind

-- the first line with a fault, where there is one; the lines are counted from n on
unfoldable pub fault_from : List ℕ → ℕ → List (List ℕ) → Option Fault
fault_from text n [] = None
fault_from text n (l ∷ ls) = fault_or (fault_of_line text l n) n l (fault_from text (suc n) ls)

abbrev pub first_fault : List ℕ → Option Fault
first_fault text = fault_from text 1 (lines text)
