-- `edition_lengths::shortest` meets its contract: the lowest bit of the set, by its trailing zeros. Assumes nothing.
use mathlib.Core.Path.{refl}
use native.Mathlib.Omega.{arith}
use lib.Count.{trailing_le}
use Rattle.edition.specs.Sets.{shortest_of}
use Rattle.edition_lengths.proofs.shortest.Goals as goal

pub overflow_cast-result : goal.overflow_cast-result
overflow_cast-result c = omega (arith, trailing_le 32 c.args.lengths)

pub returns : goal.returns
unfolding shortest_of
returns c = refl
