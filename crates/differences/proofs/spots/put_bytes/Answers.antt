-- `differences::spots::put_bytes` meets its contract. The invariant: what is left to put, from the i-th address on, makes the whole. Assumes nothing.
use mathlib.Core.Path.{◌≡◌, refl}
use Prim.Native.Nat.{ℕ, ◌≤◌, ◌<◌}
use native.Mathlib.Omega.{arith}
use Rattle.ground.proofs.Puts.{left_start, left_next, left_end}
use Rattle.differences.specs.declared.spots.TheConstants.{ADDRESSES}
use Rattle.differences.specs.Differences.{addresses}
use Rattle.differences.proofs.Single.{some_few}
use Rattle.ground.specs.Lists.{leading}
use Rattle.differences.proofs.Words.{octet_in, bytes_next, bytes_end}
use Rattle.differences.proofs.spots.put_bytes.Goals as goal

below_octet : (n : ℕ) → n < 256 → n ≤ 255
below_octet n h = omega arith

pub loop-address-init : goal.loop-address-init
unfolding addresses
loop-address-init c = (refl, omega arith, left_start _ _ _)

-- the addresses that stand in the code are below 256, by a test of all; that they are the definition's is asked behind the call
pub bounds-first-address : goal.bounds-first-address
unfolding leading
bounds-first-address c = rw c.requires.1 (octet_in ADDRESSES c.loop-address.address-index refl c.loop-address-test.true)

pub bounds-second-address : goal.bounds-second-address
unfolding leading
bounds-second-address c = rw c.requires.2 (octet_in ADDRESSES c.loop-address.address-index refl c.loop-address-test.true)

pub byte_entry-entry-requires : goal.byte_entry-entry-requires
unfolding leading
byte_entry-entry-requires c = below_octet _ (octet_in ADDRESSES c.loop-address.address-index refl c.loop-address-test.true)

pub put_entry-count-requires : goal.put_entry-count-requires
put_entry-count-requires c =
    let l = c.loop-address in
    omega (arith, l.invariant.0, l.invariant.1, c.requires.0)

pub loop-address-preserved : goal.loop-address-preserved
unfolding addresses
loop-address-preserved c =
    let l = c.loop-address in
    let a = c.args in
    let next = bytes_next a.first.now a.second.now l.address-index (omega (arith, c.loop-address-test.true)) _ refl _ c.byte_entry-entry.ensures in
    (omega (arith, c.put_entry-count.auto.room, l.invariant.0), omega (arith, c.put_entry-count.ensures.place, some_few c.byte_entry-entry.result, l.invariant.1), left_next l.invariant.2 _ _ next c.put_entry-count.ensures)

pub returns : goal.returns
returns c =
    let l = c.loop-address in
    let a = c.args in
    let e : l.address-index ≡ 14 = omega arith in
    left_end l.invariant.2 (bytes_end a.first.now a.second.now l.address-index e)
