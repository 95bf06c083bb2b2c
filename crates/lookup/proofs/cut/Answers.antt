-- `lookup::cut` meets its contract: a range that is in the image, or none. Assumes nothing.
use mathlib.Core.Path.{sym}
use Prim.Native.Nat.{◌+◌, ◌<◌, ◌≤◌}
use native.Mathlib.Omega.{arith}
use lib.ListN.{length}
use Rattle.lookup.proofs.Cuts.{within_none, within_some}
use Rattle.lookup.proofs.cut.Goals as goal

pub returns-then-to-image : goal.returns-then-to-image
returns-then-to-image c =
    let a = c.args in
    let out : length a.image.now < a.start + a.length = omega (arith, c.behind-to.ensures) in
    sym (within_none a.image.now a.start a.length out)

pub returns : goal.returns
returns c =
    let a = c.args in
    let inside : a.start + a.length ≤ length a.image.now = omega (arith, c.behind-to.ensures) in
    rw c.behind-to.ensures (within_some a.image.now a.start a.length inside)
