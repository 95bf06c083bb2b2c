-- `edition_lengths::longest` meets its contract: the highest bit of the set, by its leading zeros. Assumes nothing.
use mathlib.Core.Path.{refl}
use native.Mathlib.Omega.{arith}
use Rattle.edition.specs.Sets.{longest_of}
use Rattle.edition_lengths.proofs.longest.Goals as goal

pub returns-then-above-lt32 : goal.returns-then-above-lt32
unfolding longest_of
returns-then-above-lt32 c = refl

pub returns-else-above-lt32 : goal.returns-else-above-lt32
unfolding longest_of
returns-else-above-lt32 c = omega arith
