-- `frame_field::wrong_at` meets its contract, form by form. Assumes nothing.
use mathlib.Core.Path.{sym, ap}
use mathlib.Core.Bool.{Bool, cond}
use borrow.Author.Tests.{le-leb, lt-leb}
use Rattle.card.specs.Frame.{field_wrong}
use Rattle.frame_field.proofs.wrong_at.Goals as goal

pub returns-then-n-ge70 : goal.returns-then-n-ge70
unfolding field_wrong
returns-then-n-ge70 c = rw (c.in-One.is, le-leb 70 _ c.if-n-ge70.true)

pub returns-else-n-ge70 : goal.returns-else-n-ge70
unfolding field_wrong
returns-else-n-ge70 c = rw (c.in-One.is, lt-leb 70 _ c.if-n-ge70.false)

pub returns-then-n : goal.returns-then-n
unfolding field_wrong
returns-then-n c = rw c.in-Two.is (sym (ap (λ (q : Bool). cond q 0 32) c.if-n.true))

pub returns-else-n : goal.returns-else-n
unfolding field_wrong
returns-else-n c = rw c.in-Two.is (sym (ap (λ (q : Bool). cond q 0 32) c.if-n.false))

pub returns-in-Other : goal.returns-in-Other
unfolding field_wrong
returns-in-Other c = rw c.in-Other.is

pub returns-in-Cut : goal.returns-in-Cut
unfolding field_wrong
returns-in-Cut c = rw c.in-Cut.is
