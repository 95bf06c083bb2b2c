-- `rebuilding::mending::mend_byte` meets its contract, by what the list names. Assumes nothing.
use mathlib.Core.Path.{sym, ◌∙◌}
use Rattle.rebuilding.proofs.mending.mend_byte.Goals as goal

pub returns-then-names_address : goal.returns-then-names_address
returns-then-names_address c = let named = sym c.names_address.ensures ∙ c.if-names_address.true in rw named

pub returns-else-names_address : goal.returns-else-names_address
returns-else-names_address c = let named = sym c.names_address.ensures ∙ c.if-names_address.false in rw named
