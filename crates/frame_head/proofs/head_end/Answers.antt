-- `frame_head::head_end` meets its contract: all fixed bytes are right, or they are counted. Assumes nothing.
use mathlib.Core.Path.{sym, ◌∙◌}
use native.Mathlib.Omega.{arith}
use borrow.Author.Tests.{lt-leb}
use Rattle.frame.specs.Checks.{head_in}
use Rattle.frame.proofs.Heads.{head_in_lem}
use Rattle.frame_head.proofs.head_end.Goals as goal

pub returns-then-image-lt30 : goal.returns-then-image-lt30
unfolding head_in
returns-then-image-lt30 c = rw (lt-leb _ _ c.if-image-lt30.true)

pub returns-then-is_right : goal.returns-then-is_right
returns-then-is_right c = sym (head_in_lem _ (omega arith) ∙ c.is_right.ensures c.if-is_right.true)

pub returns : goal.returns
returns c = c.find_wrong.ensures ∙ sym (head_in_lem _ (omega arith))
