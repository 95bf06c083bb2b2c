-- `rewriting::refuse_sizes` meets its contract, by its tests. Assumes nothing.
use mathlib.Core.Path.{sym, ◌∙◌}
use Rattle.rewriting.proofs.Refused.{sizes_right, old_wrong, new_wrong}
use Rattle.rewriting.proofs.refuse_sizes.Goals as goal

pub returns-then-old-ne256 : goal.returns-then-old-ne256
returns-then-old-ne256 c = c.new.ensures ∙ sym (old_wrong _ _ c.if-old-ne256.true)

pub returns-then-new-ne256 : goal.returns-then-new-ne256
returns-then-new-ne256 c = c.new-then-new-ne256.ensures ∙ sym (new_wrong _ _ c.if-old-ne256.false c.if-new-ne256.true)

pub returns : goal.returns
returns c = c.none.ensures ∙ sym (sizes_right _ _ c.if-old-ne256.false c.if-new-ne256.false)
