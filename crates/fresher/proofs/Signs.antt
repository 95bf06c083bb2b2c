-- A signed number in 32 bits, by way of 64: what the machine computes is the number's rest. Assumes nothing.
use mathlib.Core.Path.{◌≡◌, refl}
use Prim.Native.Nat.{ℕ, suc, ◌+◌, ◌-◌, ◌%◌, ◌<◌}
use native.Mathlib.Omega.{arith}
use borrow.Author.Tests.{le-ltb}
use lib.IntN.{ℤ, pos, negsuc, ◌+ℤ◌}
use lib.Signed.{mag}
use mir.Syntax.{w32, w64}
use mir.Val.{Fits, SFits, to_z, of_z}
use mir.Facts.{to_z-of_z}
use Rattle.fresher.specs.Bytes.{twos}

-- the number and 2 to the 32
abbrev pub raised : ℤ → ℕ
raised (pos n) = n + 4294967296
raised (negsuc n) = 4294967296 - suc n

raised_is : (z : ℤ) → mag z < 2147483648 → z +ℤ pos 4294967296 ≡ pos (raised z)
raised_is (pos n) f = refl
raised_is (negsuc n) f = rw (le-ltb 4294967296 (suc n) (omega arith))

raised_small : (z : ℤ) → mag z < 2147483648 → raised z < 9223372036854775808
raised_small (pos n) f = omega arith
raised_small (negsuc n) f = omega arith

raised_rest : (z : ℤ) → mag z < 2147483648 → raised z % 4294967296 ≡ twos z
raised_rest (pos n) f = omega arith
raised_rest (negsuc n) f = omega arith

module _ (z : ℤ) (f : SFits w32 z) where
  wide : SFits w64 z
  wide = record { sfits = omega (arith, f.sfits) }

  raised-fits : SFits w64 (pos (raised z))
  raised-fits = record { sfits = raised_small z f.sfits }

  pub widened : SFits w64 (to_z w32 (of_z w32 z))
  widened = rw (to_z-of_z {w = w32} {z = z} f) wide

  same : to_z w64 (of_z w64 (to_z w32 (of_z w32 z))) +ℤ pos 4294967296 ≡ pos (raised z)
  same = rw (to_z-of_z {w = w32} {z = z} f, to_z-of_z {w = w64} {z = z} wide) (raised_is z f.sfits)

  pub added : SFits w64 (to_z w64 (of_z w64 (to_z w32 (of_z w32 z))) +ℤ pos 4294967296)
  added = rw same raised-fits

  pub sum : to_z w64 (of_z w64 (to_z w64 (of_z w64 (to_z w32 (of_z w32 z))) +ℤ pos 4294967296)) ≡ pos (raised z)
  sum = rw same (to_z-of_z {w = w64} {z = pos (raised z)} raised-fits)

  pub fitting : Fits w64 (raised z)
  fitting = record { fits = omega (arith, raised_small z f.sfits) }

  pub rest : raised z % 4294967296 ≡ twos z
  rest = raised_rest z f.sfits
