-- `lines::write_slots` is safe: at most 28 bytes of each slot stand behind its value.
use Rattle.std.proofs.Common.{◌*◌, ◌≤◌}
use Rattle.cases.proofs.lines.write_slots.Given as goal

abbrev pub invariant-loop-k : goal.invariant-loop-k
invariant-loop-k g l = l.behind ≤ l.k * 28
