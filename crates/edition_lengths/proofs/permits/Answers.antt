-- `edition_lengths::permits` meets its contract: 0 is no length, and 32 or more lies past the digits of a u32. Assumes nothing.
use mathlib.Core.Path.{sym}
use Prim.Native.Nat.{◌<◌}
use native.Mathlib.Nat.{lt_of_lt_of_le}
use lib.Pow.{pow_mono}
use Rattle.edition.specs.Sets.{permitted}
use Rattle.edition.proofs.Sets.{beyond, never_0}
use borrow.Author.Tests.{lt-ltb}
use borrow.Author.Rules.{rules}
use Rattle.edition_lengths.proofs.permits.Goals as goal

pub returns-then-n-eq0 : goal.returns-then-n-eq0
returns-then-n-eq0 c = sym (rw c.if-n-eq0.true (never_0 _))

pub returns-then-n-ge32 : goal.returns-then-n-ge32
returns-then-n-ge32 c = sym (beyond _ _ (lt_of_lt_of_le c.ranges.lengths.fits (pow_mono c.if-n-ge32.true)))

pub returns : goal.returns
unfolding permitted
returns c = let p : 0 < c.args.n = search rules in rw (lt-ltb 0 _ p)
