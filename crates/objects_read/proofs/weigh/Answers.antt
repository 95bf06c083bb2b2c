-- `objects_read::weigh` meets its contract, one verdict after the other. Assumes nothing.
use mathlib.Core.Path.{◌≡◌}
use native.Mathlib.Omega.{arith}
use Rattle.rules.specs.declared.Fault.TheVariants.{Outside, Breaks}
use Rattle.objects.specs.Objects.{valued}
use Rattle.objects_read.proofs.weigh.Goals as goal

pub overflow_add-result : goal.overflow_add-result
overflow_add-result c =
    let outside : c.in-Err-Outside.field-0 ≡ Outside c.in-Err-Outside.i = rw c.in-Err-Outside.is at c.in-Err-Outside.field-0-is in
    omega (arith, rw (c.in-Err-Outside.is, outside) at c.requires)

pub returns-in-Ok : goal.returns-in-Ok
unfolding valued
returns-in-Ok c = rw c.in-Ok.is

pub returns-in-Err-Outside : goal.returns-in-Err-Outside
unfolding valued
returns-in-Err-Outside c =
    let outside : c.in-Err-Outside.field-0 ≡ Outside c.in-Err-Outside.i = rw c.in-Err-Outside.is at c.in-Err-Outside.field-0-is in
    rw (c.in-Err-Outside.is, outside, c.tag_of.ensures)

pub returns-in-Err-Breaks : goal.returns-in-Err-Breaks
unfolding valued
returns-in-Err-Breaks c =
    let breaks : c.in-Err-Breaks.field-0 ≡ Breaks = rw c.in-Err-Breaks.is at c.in-Err-Breaks.field-0-is in
    rw (c.in-Err-Breaks.is, breaks, c.tag_of-in-Err-Breaks.ensures)
