-- `put_line` is safe and ends, and what it put is in the room. The invariant: so is what it put so far. Assumes nothing.
use mathlib.Core.Path.{sym}
use Prim.Native.Nat.{◌≤◌}
use native.Mathlib.Omega.{arith}
use lib.ListN.{length}
use lib.Seq.{length-take-le}
use borrow.Author.Rules.{rules}
use Rattle.tool_host.proofs.Behind.{behind_within}
use Rattle.tool_host.proofs.put_line.Goals as goal

pub loop-i-preserved : goal.loop-i-preserved
loop-i-preserved c =
    let l = c.loop-i in
    let h : l.place ≤ length l.room = omega arith in
    (search rules, omega (arith, behind_within l.room l.place _ c.put_hex-place.ensures.value h))

pub returns : goal.returns
returns c =
    let l = c.loop-i in
    let h : l.place ≤ length l.room = omega arith in
    let b : c.put_byte.result ≤ length c.put_byte.new.room = omega (arith, behind_within l.room l.place _ c.put_byte.ensures.value h) in
    record { bound = b; taken = sym (length-take-le _ _ b) }
