-- A number in decimal is digits, and is read back; computed for all below 256. Assumes nothing.
use Prim.Native.Nat.{ℕ, ◌<◌}
use borrow.Author.Tests.{eqb-true, ltb-true}
use mathlib.Core.Path.{◌≡◌, refl}
use mathlib.Core.Bool.{Bool, true}
use lib.Dec.{eqb, ltb}
use lib.ListN.{length}
use Rattle.ground.specs.Rooms.{decimal}
use Rattle.ground.proofs.Lists.{alike_below, alike_below_lem}
use Rattle.table_take.specs.Splitting.{through}
use Rattle.table_take.specs.Numbers.{with_digit, with_byte, number_of}
use Rattle.table_take.proofs.Signs.{Among, is_among, among_of}

is_back : ℕ → Bool
is_back n = eqb (number_of (decimal n)) n

is_digits : ℕ → Bool
is_digits n = is_among 0x30 0x39 (decimal n)

is_there : ℕ → Bool
is_there n = ltb 0 (length (decimal n))

always : ℕ → Bool
always n = true

backs : alike_below is_back always 256 ≡ true
unfolding is_back always number_of through with_byte with_digit decimal
backs = refl

digits : alike_below is_digits always 256 ≡ true
unfolding is_digits always is_among decimal
digits = refl

theres : alike_below is_there always 256 ≡ true
unfolding is_there always decimal
theres = refl

module _ (n : ℕ) (h : n < 256) where
  pub decimal_back : number_of (decimal n) ≡ n
  unfolding is_back always
  decimal_back = eqb-true _ n (alike_below_lem is_back always 256 backs n h)

  pub decimal_digits : Among 0x30 0x39 (decimal n)
  unfolding is_digits always
  decimal_digits = among_of 0x30 0x39 (decimal n) (alike_below_lem is_digits always 256 digits n h)

  pub decimal_some : 0 < length (decimal n)
  unfolding is_there always
  decimal_some = ltb-true 0 _ (alike_below_lem is_there always 256 theres n h)
