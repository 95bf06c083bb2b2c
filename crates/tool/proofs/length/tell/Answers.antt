-- `length::tell` is safe: the bytes stand in the room. Assumes nothing.
use mathlib.Core.Path.{sym}
use native.Mathlib.Omega.{arith}
use lib.Seq.{length-take-le}
use Rattle.tool.proofs.length.tell.Goals as goal

pub slice_bounds-read_length-end : goal.slice_bounds-read_length-end
slice_bounds-read_length-end g c = sym (length-take-le _ _ (omega arith))
