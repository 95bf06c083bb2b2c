-- `rebuilding::mending::mend_object` meets its contract, by what the list names. Assumes nothing.
use mathlib.Core.Path.{sym, ◌∙◌}
use Rattle.rebuilding.proofs.mending.mend_object.Goals as goal

pub returns-then-names_tag : goal.returns-then-names_tag
returns-then-names_tag c = let named = sym c.names_tag.ensures ∙ c.if-names_tag.true in rw named

pub returns-else-names_tag : goal.returns-else-names_tag
returns-else-names_tag c = let named = sym c.names_tag.ensures ∙ c.if-names_tag.false in rw named
