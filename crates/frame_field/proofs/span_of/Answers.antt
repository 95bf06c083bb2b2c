-- `frame_field::span_of` meets its contract, form by form. Assumes nothing.
use Rattle.frame.specs.Checks.{span_of}
use Rattle.frame_field.proofs.span_of.Goals as goal

pub returns-in-One : goal.returns-in-One
unfolding span_of
returns-in-One c = rw (c.wrong_at-wrong.ensures, c.in-One.is)

pub returns-in-Two : goal.returns-in-Two
unfolding span_of
returns-in-Two c = rw (c.wrong_at-wrong.ensures, c.in-Two.is)

pub returns-in-Other : goal.returns-in-Other
unfolding span_of
returns-in-Other c = rw (c.wrong_at-wrong.ensures, c.in-Other.is)

pub returns-in-Cut : goal.returns-in-Cut
unfolding span_of
returns-in-Cut c = rw (c.wrong_at-wrong.ensures, c.in-Cut.is)
