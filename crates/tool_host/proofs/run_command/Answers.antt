-- `run_command` is safe: what is cut off is in the room. Assumes nothing.
use mathlib.Core.Path.{sym}
use native.Mathlib.Omega.{arith}
use lib.Seq.{length-take-le}
use Rattle.tool_host.proofs.run_command.Goals as goal

pub slice_bounds-answer_file-end : goal.slice_bounds-answer_file-end
slice_bounds-answer_file-end g c = sym (length-take-le _ _ (omega arith))
