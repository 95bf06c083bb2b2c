-- `tree_list::read_list` and `tree_list::read_object` fall together by twice the bytes that remain, and one more for the list.
use Rattle.std.proofs.Common.{length, ◌-◌, ◌+◌, ◌*◌}
use Rattle.tree.proofs.Steps.{Partly}
use Rattle.tree_list.proofs.+read_list_read_object.Given as goal

abbrev pub decreases-read_list : goal.decreases-read_list
decreases-read_list l = 2 * length l.bytes.now + 1

abbrev pub decreases-read_object : goal.decreases-read_object
decreases-read_object l = 2 * length l.bytes.now

abbrev pub invariant-read_list-loop-p : goal.invariant-read_list-loop-p
invariant-read_list-loop-p l = Partly (7 - l.left) l.at l.bytes l.k l.fn.room l.p l.n l.room

abbrev pub decreases-read_list-loop-p : goal.decreases-read_list-loop-p
decreases-read_list-loop-p l = length l.bytes - l.p
