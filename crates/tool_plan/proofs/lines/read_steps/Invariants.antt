-- `tool_plan::lines::read_steps` meets its contract. The invariant: no more steps than the room holds. Assumes nothing.
use Rattle.std.proofs.Common.{◌≡◌, ◌≤◌, length}
use Rattle.tool_plan.proofs.lines.read_steps.Given as goal

abbrev pub invariant-loop-line : goal.invariant-loop-line
invariant-loop-line l = (l.count ≤ length l.room) × (length l.room ≡ length l.initial.room)
