-- `tree_values::value_size` meets its contract, by bit '20'. Assumes nothing.
use lib.Bits.{bit_and}
use borrow.Author.Tests.{eq-eqb, ne_eqb}
use Rattle.tree_back.specs.Glue.{value_size}
use Rattle.tree_values.proofs.value_size.Goals as goal

pub returns-then-tag-ne0 : goal.returns-then-tag-ne0
unfolding value_size
returns-then-tag-ne0 c = rw (ne_eqb (bit_and c.args.tag 32) 0 c.if-tag-ne0.true)

pub returns : goal.returns
unfolding value_size
returns c = rw (eq-eqb (bit_and c.args.tag 32) 0 c.if-tag-ne0.false)
