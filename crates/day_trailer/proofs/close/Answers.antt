-- `close` meets its contract: too many cards, an index of another size and a room too small leave the room as it is; else all that sealing asks for is there. Assumes nothing.
use mathlib.Core.Path.{sym, ◌∙◌}
use native.Mathlib.Omega.{arith}
use Rattle.day.proofs.Frames.{closed_many, closed_odd, closed_small, closed_right}
use Rattle.day_trailer.proofs.close.Goals as goal

pub returns-then-count-gt200 : goal.returns-then-count-gt200
returns-then-count-gt200 c = closed_many _ _ _ (omega arith)

pub returns-then-index-count : goal.returns-then-index-count
returns-then-index-count c = closed_odd _ _ _ (omega arith) c.if-index-count.true

pub returns-then-room-count : goal.returns-then-room-count
returns-then-room-count c = closed_small _ _ _ (omega arith) (omega arith) c.if-room-count.true

pub returns : goal.returns
returns c = c.seal.ensures ∙ sym (closed_right _ _ _ (omega arith) (omega arith) (omega arith))
