-- `size_of` meets its contract. The invariant: the size so far and that of the objects from the index on make the whole. Assumes nothing.
use mathlib.Core.Path.{◌≡◌}
use Prim.Native.Nat.{◌+◌, ◌*◌, ◌≤◌}
use lib.ListN.{drop}
use Rattle.object_sizes.specs.Sizes.{size_of}
use Rattle.object_sizes.proofs.size_of.Given as goal

abbrev pub invariant-loop-n : goal.invariant-loop-n
invariant-loop-n l = (l.size ≤ 257 * l.n-index) × (l.size + size_of (drop l.n-index l.fn.lengths) ≡ size_of l.fn.lengths)
