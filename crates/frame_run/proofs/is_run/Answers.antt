-- `frame_run::is_run` meets its contract: no bit differs exactly where all bytes are b. Assumes nothing.
use mathlib.Core.Path.{◌≡◌}
use Prim.Native.Nat.{ℕ}
use native.Mathlib.Omega.{arith}
use lib.ListN.{length}
use Rattle.ground.proofs.Runs.{differs_start, differs_next, differs_run}
use Rattle.frame_run.proofs.is_run.Goals as goal

pub loop-x-init : goal.loop-x-init
loop-x-init c = differs_start _ _

pub loop-x-preserved : goal.loop-x-preserved
loop-x-preserved c = let l = c.loop-x in differs_next c.args.part.now (λ (k : ℕ). c.args.b) l.difference l.x-index l.invariant

pub returns : goal.returns
returns c =
    let l = c.loop-x in
    let end : l.x-index ≡ length c.args.part.now = omega arith in
    differs_run c.args.part.now c.args.b l.difference (rw end at l.invariant)
