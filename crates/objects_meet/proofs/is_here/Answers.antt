-- `objects_meet::is_here` meets its contract, by whether anything is left. Assumes nothing.
use mathlib.Core.Path.{sym}
use native.Mathlib.Omega.{arith}
use Rattle.objects.proofs.Finds.{here_end, here_head}
use Rattle.objects_meet.proofs.is_here.Goals as goal

pub returns-then-part-eq0 : goal.returns-then-part-eq0
returns-then-part-eq0 c = sym (here_end c.args.k c.args.part.now c.if-part-eq0.true)

pub returns : goal.returns
returns c = let a = c.args in rw (here_head a.k a.part.now (omega arith), c.tag_of.ensures)
