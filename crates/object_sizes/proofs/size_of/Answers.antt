-- `size_of` meets its contract. The invariant: the size so far and that of the objects from the index on make the whole. Assumes nothing.
use mathlib.Core.Path.{◌≡◌}
use native.Mathlib.Omega.{arith}
use borrow.Author.Rules.{rules}
use lib.ListN.{length}
use Rattle.object_sizes.proofs.Sums.{size_next, size_end}
use Rattle.object_sizes.proofs.size_of.Goals as goal

pub loop-n-init : goal.loop-n-init
loop-n-init c = (omega arith, omega arith)

pub loop-n-preserved : goal.loop-n-preserved
loop-n-preserved c =
    let sixteen : length c.args.lengths ≡ 16 =
    search rules in
    let l = c.loop-n in
    let e = size_next c.args.lengths l.n-index (omega (arith, sixteen)) in
    let f = c.size_with-size.ensures.value in
    (omega arith, omega arith)

pub returns : goal.returns
returns c =
    let sixteen : length c.args.lengths ≡ 16 =
    search rules in
    let l = c.loop-n in
    let e = size_end c.args.lengths l.n-index (omega (arith, sixteen)) in
    record { upper_bound = omega arith; value = omega arith }
