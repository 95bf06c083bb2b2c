-- `rewriting::states::take_step` meets its contract: a step past the end changes nothing. Assumes nothing.
use mathlib.Core.Path.{refl, sym}
use native.Mathlib.Omega.{arith}
use borrow.Author.Tests.{le-leb, lt-leb}
use lib.Seq.{set_out}
use Rattle.rewriting.specs.Plans.{address_of, byte_of}
use Rattle.rewriting.proofs.states.take_step.Goals as goal

pub returns-then-address-gt255 : goal.returns-then-address-gt255
returns-then-address-gt255 c =
    let a = c.args in
    record { value = rw (lt-leb (address_of a.word) 255 (omega arith)); state_after = sym (set_out a.state.now (address_of a.word) (byte_of a.word) (omega (arith, c.requires, c.if-address-gt255.true))) }

pub returns : goal.returns
returns c =
    let a = c.args in
    record { value = rw (le-leb (address_of a.word) 255 (omega (arith, c.if-address-gt255.false))) c.may_be.ensures; state_after = refl }
