-- Each table is taken as an edition, and the decision on the two is packed. Assumes nothing.
use mathlib.Core.Path.{ap, ap₂, ◌∙◌}
use Rattle.nesting.specs.Decision.{nesting_of}
use Rattle.calls_tables.specs.Nestings.{tables_nesting, packed_nesting}
use Rattle.calls_tables.proofs.nested.Goals as goal

pub returns : goal.returns
unfolding tables_nesting
returns c =
    c.pack_nesting.ensures
    ∙ ap packed_nesting (c.nested-editions_nested.ensures ∙ ap₂ nesting_of c.edition_of.ensures c.edition_of-2.ensures)
