-- `lengths::has` meets its contract: 32 or more lies past the digits of a u32. Assumes nothing.
use mathlib.Core.Path.{refl, sym}
use native.Mathlib.Nat.{lt_of_lt_of_le, div-eq_of_lt}
use lib.Pow.{pow_mono}
use Rattle.table_text.specs.Texts.{has}
use Rattle.put_table.proofs.lengths.has.Goals as goal

pub returns-then-n-ge32 : goal.returns-then-n-ge32
unfolding has
returns-then-n-ge32 c = sym (rw (div-eq_of_lt (lt_of_lt_of_le c.ranges.set.fits (pow_mono c.if-n-ge32.true))))

pub returns : goal.returns
unfolding has
returns c = refl
