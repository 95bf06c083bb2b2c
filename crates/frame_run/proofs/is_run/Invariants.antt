-- `frame_run::is_run` meets its contract: no bit differs exactly where all bytes are b. Assumes nothing.
use Prim.Native.Nat.{ℕ}
use Rattle.ground.proofs.Runs.{Differs}
use Rattle.frame_run.proofs.is_run.Given as goal

abbrev pub invariant-loop-x : goal.invariant-loop-x
invariant-loop-x l = Differs l.part (λ (k : ℕ). l.b) l.difference l.x-index
