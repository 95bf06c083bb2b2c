-- Bytes as hex digits, capital or small.
use Rattle.std.specs.Prelude.{ℕ, ◌+◌, ◌-◌, ◌*◌, ◌/◌, Bool, cond, ◌&&◌, List, Option, Some, None, is_some, unwrap_or, eqb, leb, ltb, length, get_or}
use Rattle.ground.specs.Lists.{leading}

-- what a digit stands for, where it is one
unfoldable pub digit_value : ℕ → Option ℕ
digit_value d =
    cond (leb 0x30 d && leb d 0x39) (Some (d - 0x30))
    (cond (leb 0x41 d && leb d 0x46) (Some (d - 0x41 + 10))
    (cond (leb 0x61 d && leb d 0x66) (Some (d - 0x61 + 10)) None))

abbrev pub is_digit : ℕ → Bool
is_digit d = is_some (digit_value d)

-- another byte counts as 0
abbrev pub value_or_0 : ℕ → ℕ
value_or_0 d = unwrap_or (digit_value d) 0

-- a value is so many hex digits
abbrev pub is_hex : List ℕ → ℕ → Bool
is_hex value digits = eqb (length value) digits && eqb (leading is_digit value) digits

-- the byte of the i-th two digits; 0 past the end
unfoldable pub byte_at : List ℕ → ℕ → ℕ
byte_at value i =
    cond (ltb i (length value / 2))
    (value_or_0 (get_or value (2 * i) 0) * 16 + value_or_0 (get_or value (2 * i + 1) 0))
    0
