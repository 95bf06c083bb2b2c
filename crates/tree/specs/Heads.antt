-- What stands at a tag, in bytes that go up to the enclosing end.
use Rattle.std.specs.Prelude.{ℕ, ◌+◌, ◌-◌, Bool, cond, not, ◌||◌, List, eqb, ltb, length, get_or, drop, Result, Ok, Err}
use Rattle.std.specs.Int.Bits.{bit_and}
use Rattle.lengths.specs.declared.ToldLength.{ToldLength}
use Rattle.lengths.specs.Lengths.{length_read, length_told}
use Rattle.tree.specs.declared.Head.{Head}
use Rattle.tree.specs.declared.Refusal.{Refusal}

-- tag '00', or its low five bits all ones
abbrev pub bad_tag : ℕ → Bool
bad_tag t = eqb t 0 || eqb (bit_and t 0x1F) 0x1F

-- bit '20': the value is a list of objects
abbrev pub is_list : ℕ → Bool
is_list t = not (eqb (bit_and t 0x20) 0)

-- an object is there: its tag, where its value starts behind it, and the value's length
abbrev pub found : ℕ → ℕ → ℕ → Result Head Refusal
found t start n = Ok (record { tag = t; start = start; length = n })

abbrev pub refuse : {A : Type 0} → ℕ → ℕ → Result A Refusal
refuse number place = Err (record { number = number; place = place })

-- the length field behind a tag
abbrev pub field_behind : List ℕ → ToldLength
field_behind s = length_told (length_read (drop 1 s))

-- 51 at the field's first byte; 52 where the value goes past the end; else the tag, where the value starts behind it, and its length
abbrev pub on_field : ToldLength → List ℕ → ℕ → Result Head Refusal
on_field field s at =
    cond (eqb field.number 0)
    (cond (ltb (length s - (field.used + 1)) field.length) (refuse 52 at) (found (get_or s 0 0) (field.used + 1) field.length))
    (refuse 51 (at + 1))

-- `at` is the tag's address: 50, then 53, then the length field
unfoldable pub head_at : List ℕ → ℕ → ℕ → Result Head Refusal
head_at s at depth =
    cond (bad_tag (get_or s 0 0)) (refuse 50 at)
    (cond (ltb 6 depth) (refuse 53 at)
    (on_field (field_behind s) s at))

-- the same for any bytes, address and levels left: no object, told as 0 at 0, where there is no byte, the address is past 4,096, or more than six levels are left
unfoldable pub head_for : List ℕ → ℕ → ℕ → Result Head Refusal
head_for s at left =
    cond (eqb (length s) 0) (refuse 0 0)
    (cond (ltb 4096 at) (refuse 0 0)
    (cond (ltb 6 left) (refuse 0 0)
    (head_at s at (7 - left))))
