-- A number in decimal: 256 stands for all above 255, 257 for no number, and 258 for nothing written yet.
use Rattle.std.specs.Prelude.{ℕ, ◌+◌, ◌-◌, ◌*◌, cond, List, eqb, ltb}
use Rattle.table_take.specs.Splitting.{through}

unfoldable pub with_digit : ℕ → ℕ → ℕ
with_digit n d = cond (eqb n 258) d (cond (ltb 256 n) n (cond (ltb 255 (n * 10 + d)) 256 (n * 10 + d)))

unfoldable pub with_byte : ℕ → ℕ → ℕ
with_byte n b = cond (ltb b 0x30) 257 (cond (ltb 0x39 b) 257 (with_digit n (b - 0x30)))

unfoldable pub number_of : List ℕ → ℕ
number_of word = through with_byte 258 word
