-- `example_values::object_of` meets its contract: the first byte is put, and the others behind it, into a room of zeros. Assumes nothing.
use native.Mathlib.Omega.{arith}
use borrow.Author.Tests.{eq-eqb}
use Rattle.card.specs.Content.{object_of}
use Rattle.example.specs.Cards.{spelled}
use Rattle.example.proofs.Spelled.{spelled_object}
use Rattle.example_values.proofs.object_of.Goals as goal

pub returns-then-n-eq0 : goal.returns-then-n-eq0
unfolding object_of spelled
returns-then-n-eq0 c = rw (eq-eqb _ _ c.if-n-eq0.true)

pub returns : goal.returns
returns c =
    let a = c.args in
    spelled_object a.n a.first a.rest _ _ (omega arith) (omega arith) c.put_byte.ensures.room_after c.fill.ensures.room_after
