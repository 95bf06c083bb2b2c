-- `objects_refusals::refuse_missing` meets its contract: at the end, else by whether the byte met is a later row's tag. Assumes nothing.
use mathlib.Core.Path.{sym, ◌∙◌}
use native.Mathlib.Omega.{arith}
use Rattle.objects.proofs.Finds.{missing_end, missing_head}
use Rattle.objects_refusals.proofs.refuse_missing.Goals as goal

pub returns-then-part-eq0 : goal.returns-then-part-eq0
returns-then-part-eq0 c =
    let a = c.args in
    rw (missing_end a.k a.at a.part.now c.if-part-eq0.true, ← c.tag_of.ensures) c.new.ensures

pub returns-then-is_later : goal.returns-then-is_later
returns-then-is_later c =
    let a = c.args in
    let later = sym c.is_later.ensures ∙ c.if-is_later.true in
    rw (missing_head a.k a.at a.part.now (omega arith), later, ← c.tag_of-then-is_later.ensures) c.new-then-is_later.ensures

pub returns-else-is_later : goal.returns-else-is_later
returns-else-is_later c =
    let a = c.args in
    let later = sym c.is_later.ensures ∙ c.if-is_later.false in
    rw (missing_head a.k a.at a.part.now (omega arith), later) c.new-else-is_later.ensures
