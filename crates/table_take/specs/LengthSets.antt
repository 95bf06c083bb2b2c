-- The set of lengths that a word lists: `none`, or numbers and ranges with commas between them, in any order.
use Rattle.std.specs.Prelude.{ℕ, zero, suc, ◌+◌, ◌-◌, ◌^◌, cond, List, eqb, ltb}
use Rattle.std.specs.Int.Bits.{bit_or}
use Rattle.ground.specs.Lists.{same_list}
use Rattle.table_text.specs.Vocabulary.{word_of}
use Rattle.table_take.specs.declared.Listed.{Listed}
use Rattle.table_take.specs.Splitting.{through}
use Rattle.table_take.specs.Numbers.{with_byte}

-- the set with so many lengths from n on
unfoldable pub with_range : ℕ → ℕ → ℕ → ℕ
with_range set n zero = set
with_range set n (suc k) = with_range (bit_or set (2 ^ n)) (suc n) k

-- where an item starts: 32 says that it is no range
abbrev pub first_of : ℕ → ℕ → ℕ
first_of from n = cond (eqb from 32) n from

-- what is wrong where an item ends: 7 no number, 8 a length above 31, 9 a range that ends before it starts
unfoldable pub item_fault : ℕ → ℕ → ℕ
item_fault from n = cond (ltb 256 n) 7 (cond (ltb 31 n) 8 (cond (ltb n (first_of from n)) 9 0))

-- and where a range starts
unfoldable pub range_fault : ℕ → ℕ → ℕ
range_fault from n = cond (eqb from 32) (cond (ltb 256 n) 7 (cond (ltb 31 n) 8 0)) 7

abbrev pub listed : ℕ → ℕ → ℕ → ℕ → Listed
listed wrong set from number = record { wrong = wrong; set = set; from = from; number = number }

abbrev pub nothing_listed : Listed
nothing_listed = listed 0 0 32 258

unfoldable pub settled : ℕ → ℕ → ℕ → ℕ → Listed
settled fault set from n = cond (eqb fault 0) (listed 0 (with_range set (first_of from n) (n + 1 - first_of from n)) 32 258) (listed fault set 32 258)

-- an item ends
unfoldable pub closed : Listed → Listed
closed s = cond (eqb s.wrong 0) (settled (item_fault s.from s.number) s.set s.from s.number) s

-- a range starts
unfoldable pub begun : Listed → Listed
begun s = listed (range_fault s.from s.number) s.set s.number 258

unfoldable pub with_sign : Listed → ℕ → Listed
with_sign s b =
    cond (eqb s.wrong 0)
    (cond (eqb b 0x2C) (closed s) (cond (eqb b 0x2D) (begun s) (listed 0 s.set s.from (with_byte s.number b))))
    s

unfoldable pub lengths_of : List ℕ → Listed
lengths_of word = cond (same_list word (word_of 28)) nothing_listed (closed (through with_sign nothing_listed word))
