-- `objects_refusals::is_later` meets its contract. The invariant: the tag is among those after k exactly if it is among those from j on. Assumes nothing.
use mathlib.Core.Path.{refl, sym, ◌∙◌}
use Prim.Native.Nat.{suc}
use native.Mathlib.Numerals.{add-one}
use native.Mathlib.Omega.{arith}
use borrow.Author.Rules.{rules}
use Rattle.objects.proofs.Finds.{later_here, later_next, later_end}
use Rattle.objects_refusals.proofs.is_later.Goals as goal

pub returns-then-k-ge17 : goal.returns-then-k-ge17
returns-then-k-ge17 c = sym (later_end _ (suc c.args.k) (omega arith))

pub loop-j-init : goal.loop-j-init
loop-j-init c = rw add-one refl

pub returns-then-b-tag_of : goal.returns-then-b-tag_of
returns-then-b-tag_of c =
    sym (later_here _ c.loop-j.j (omega arith) (c.if-b-tag_of.true ∙ c.tag_of.ensures)) ∙ c.loop-j.invariant

pub loop-j-preserved : goal.loop-j-preserved
loop-j-preserved c =
    rw add-one (sym (later_next _ c.loop-j.j (omega arith) (λ e. c.if-b-tag_of.false (e ∙ sym c.tag_of.ensures))) ∙ c.loop-j.invariant)

pub returns : goal.returns
returns c = sym (later_end _ c.loop-j.j (omega arith)) ∙ c.loop-j.invariant
