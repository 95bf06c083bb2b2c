-- `lengths::put_listed` meets its contract. The invariant: what is left to put, from length n on, makes the whole. Assumes nothing.
use Prim.Native.Nat.{◌+◌, ◌-◌, ◌*◌, ◌≤◌}
use Rattle.ground.proofs.Puts.{Left}
use Rattle.table_text.specs.Texts.{length_parts}
use Rattle.put_table.proofs.lengths.put_listed.Given as goal

abbrev pub invariant-loop-n : goal.invariant-loop-n
invariant-loop-n l =
    (l.place ≤ l.at + l.n * 4) × Left l.initial.room l.at (length_parts l.set 0 32) l.room l.place (length_parts l.set l.n (32 - l.n))
