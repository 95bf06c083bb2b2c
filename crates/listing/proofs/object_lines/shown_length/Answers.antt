-- `listing::object_lines::shown_length` meets its contract: no more is taken of a list than it has. Assumes nothing.
use mathlib.Core.Path.{◌≡◌, sym}
use Prim.Native.Nat.{◌≤◌}
use native.Mathlib.Omega.{arith}
use lib.ListN.{length}
use lib.Seq.{length-take-le, take_all}
use borrow.Author.Rules.{rules}
use Rattle.listing.proofs.object_lines.shown_length.Goals as goal

pub returns-then-item-lt28 : goal.returns-then-item-lt28
returns-then-item-lt28 c =
    let held : length c.args.item.bytes ≡ 28 =
    search rules in
    let h : c.args.item.length ≤ length c.args.item.bytes = omega (arith, held) in
    record { value = sym (length-take-le _ _ h); upper_bound = omega arith }

pub returns-else-item-lt28 : goal.returns-else-item-lt28
returns-else-item-lt28 c =
    let held : length c.args.item.bytes ≡ 28 =
    search rules in
    let h : length c.args.item.bytes ≤ c.args.item.length = omega (arith, held) in
    record { value = rw (take_all _ _ h) (omega (arith, held)); upper_bound = omega arith }
