-- `text_records::free_bytes`: the bytes passed are those listed. Assumes nothing.
use Prim.Native.Nat.{◌<◌}
use native.Mathlib.Omega.{arith}
use mathlib.Core.Path.{◌≡◌, refl}
use lib.ListN.{length}
use lib.ListN.{length-set}
use Rattle.card_text.specs.Records.{listed, free_said}
use Rattle.card_text.specs.Hex.{byte_at}
use Rattle.card_text.proofs.Listed.{listed_more, listed_all}
use Rattle.text_records.proofs.free_bytes.Goals as goal

pub loop-i-init : goal.loop-i-init
unfolding listed
loop-i-init c = (refl, refl)

pub loop-i-preserved : goal.loop-i-preserved
loop-i-preserved c =
    let l = c.loop-i in
    let h : l.i < length l.free = omega arith in
    (simp length-set (omega arith), listed_more (byte_at c.args.value.now) l.free l.i l.invariant.1 h c.byte_at.ensures)

pub returns : goal.returns
unfolding free_said
returns c =
    let l = c.loop-i in
    let e : l.i ≡ 12 = omega arith in
    rw e at (listed_all (byte_at c.args.value.now) l.free l.i l.invariant.1 (omega arith))
