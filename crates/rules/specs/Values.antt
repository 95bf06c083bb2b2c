-- The value rules, and what a rule says of a value.
use Rattle.std.specs.Prelude.{ℕ, ◌+◌, ◌-◌, ◌*◌, Bool, true, cond, not, ◌&&◌, ◌||◌, List, [], ◌∷◌, eqb, leb, ltb, length, get_or, Result, Ok, Err}
use Rattle.rules.specs.declared.Rule.{Rule}
use Rattle.rules.specs.declared.Rule.TheVariants.{Digits, Text, Lead, Code, Birth, Expiry, Raw, NotD}
use Rattle.rules.specs.declared.Fault.{Fault}
use Rattle.rules.specs.declared.Fault.TheVariants.{Outside, Breaks}
use Rattle.ground.specs.Lists.{among, leading}

abbrev pub between : ℕ → ℕ → ℕ → Bool
between a b x = leb a x && leb x b

-- Digits: '30'-'39'
abbrev pub is_digit : ℕ → Bool
is_digit b = between 0x30 0x39 b

-- Text: digits, A-Z, a-z, the DIN 66003 letters, and ten signs more
unfoldable pub is_text : ℕ → Bool
is_text b =
    is_digit b || between 0x41 0x5A b || between 0x61 0x7A b
    || among b (0x5B ∷ 0x5C ∷ 0x5D ∷ 0x7B ∷ 0x7C ∷ 0x7D ∷ 0x7E ∷ [])
    || among b (0x20 ∷ 0x26 ∷ 0x27 ∷ 0x28 ∷ 0x29 ∷ 0x2B ∷ 0x2D ∷ 0x2E ∷ 0x2F ∷ 0x5F ∷ [])

-- which characters a rule has: digits, text, any byte
abbrev pub by_class : {A : Type 0} → Rule → A → A → A → A
by_class Digits digit text any = digit
by_class Text digit text any = text
by_class Lead digit text any = digit
by_class Code digit text any = text
by_class Birth digit text any = digit
by_class Expiry digit text any = digit
by_class Raw digit text any = any
by_class NotD digit text any = text

abbrev pub takes : Rule → ℕ → Bool
takes rule b = by_class rule (is_digit b) (is_text b) true

-- Lead: the first 1, 3 or 5
abbrev pub is_lead : ℕ → Bool
is_lead b = eqb b 0x31 || eqb b 0x33 || eqb b 0x35

-- Code: the first byte one of 1 9 4 6 7 8 M X A C K L E N D F S P
abbrev pub is_code : ℕ → Bool
is_code b =
    eqb b 0x31 || eqb b 0x39 || eqb b 0x34 || eqb b 0x36 || eqb b 0x37 || eqb b 0x38
    || eqb b 0x4D || eqb b 0x58 || eqb b 0x41 || eqb b 0x43 || eqb b 0x4B || eqb b 0x4C
    || eqb b 0x45 || eqb b 0x4E || eqb b 0x44 || eqb b 0x46 || eqb b 0x53 || eqb b 0x50

-- the number that two digits write
abbrev pub two : ℕ → ℕ → ℕ
two tens ones = tens * 10 + ones - 11 * 0x30

-- Birth: day, month, year; month 00 to 12, day 00 to 31, month 00 only with day 00
abbrev pub is_birth : ℕ → ℕ → ℕ → Bool
is_birth n day month = eqb n 8 && leb month 12 && leb day 31 && (not (eqb month 0) || eqb day 0)

-- Expiry: month 01 to 12, two-digit year
abbrev pub is_expiry : ℕ → ℕ → Bool
is_expiry n month = eqb n 4 && leb 1 month && leb month 12

-- NotD: other than the single letter D
abbrev pub is_not_d : ℕ → ℕ → Bool
is_not_d n first = not (eqb n 1 && eqb first 0x44)

-- what a rule asks beyond its characters
abbrev pub by_sense : Rule → Bool → Bool → Bool → Bool → Bool → Bool
by_sense Digits lead code birth expiry other = true
by_sense Text lead code birth expiry other = true
by_sense Lead lead code birth expiry other = lead
by_sense Code lead code birth expiry other = code
by_sense Birth lead code birth expiry other = birth
by_sense Expiry lead code birth expiry other = expiry
by_sense Raw lead code birth expiry other = true
by_sense NotD lead code birth expiry other = other

unfoldable pub holds : Rule → List ℕ → Bool
holds rule v =
    by_sense rule (is_lead (get_or v 0 0)) (is_code (get_or v 0 0))
    (is_birth (length v) (two (get_or v 0 0) (get_or v 1 0)) (two (get_or v 2 0) (get_or v 3 0)))
    (is_expiry (length v) (two (get_or v 0 0) (get_or v 1 0)))
    (is_not_d (length v) (get_or v 0 0))

-- how a value stands to its rule: it is taken, or something is wrong with it
abbrev pub Verdict : Type 0
Verdict = Result (Unit {0}) Fault

-- a byte outside the rule's characters is told before all else
unfoldable pub judged : Rule → List ℕ → Verdict
judged rule v =
    cond (ltb (leading (takes rule) v) (length v)) (Err (Outside (leading (takes rule) v)))
    (cond (holds rule v) (Ok tt) (Err Breaks))

-- a verdict in the document's numbers: 0 where the value is taken, 9 with the index, 10
pub record ToldVerdict : Type 0 where
  pub number : ℕ
  pub index : ℕ

abbrev pub verdict_told : Verdict → ToldVerdict
verdict_told (Ok u) = record { number = 0; index = 0 }
verdict_told (Err (Outside i)) = record { number = 9; index = i }
verdict_told (Err Breaks) = record { number = 10; index = 0 }
