-- `tool_day::changes::build` is safe: at most 255 images are laid end to end. Assumes nothing.
use mathlib.Core.Path.{sym}
use native.Mathlib.Omega.{arith}
use lib.Seq.{length-take-le}
use Rattle.tool_day.proofs.changes.build.Goals as goal

pub slice_bounds-build_file-end : goal.slice_bounds-build_file-end
slice_bounds-build_file-end g c = sym (length-take-le _ _ (omega arith))
