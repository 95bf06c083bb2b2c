-- The permitted lengths: a set kept in the bits of one number.
use Rattle.std.specs.Prelude.{ℕ, suc, ◌-◌, ◌/◌, ◌%◌, ◌^◌, Bool, ◌&&◌, eqb, ltb}
use Rattle.std.specs.Int.Count.{count_trailing_zeros, count_leading_zeros}

-- the length n is in the set; 0 is no length
unfoldable pub permitted : ℕ → ℕ → Bool
permitted set n = ltb 0 n && eqb (set / 2 ^ n % 2) 1

-- the ends of the set: trailing zeros give the shortest, leading zeros the longest
unfoldable pub shortest_of : ℕ → ℕ
shortest_of set = count_trailing_zeros 32 set

unfoldable pub longest_of : ℕ → ℕ
longest_of set = 31 - count_leading_zeros 32 set

-- the set of the length n alone, and that of the lengths from a to b
abbrev pub only : ℕ → ℕ
only n = 2 ^ n

abbrev pub up_to : ℕ → ℕ → ℕ
up_to a b = 2 ^ suc b - 2 ^ a
