-- `check_numbers` meets its contract: 22 is told exactly where the two numbers differ. Assumes nothing.
use mathlib.Core.Path.{◌∙◌}
use Rattle.checks.proofs.Order.{numbers_same, numbers_differ}
use Rattle.checks.proofs.check_numbers.Goals as goal

pub returns-then-number-edition : goal.returns-then-number-edition
returns-then-number-edition c = numbers_same _ _ c.if-number-edition.true

pub returns-else-number-edition : goal.returns-else-number-edition
returns-else-number-edition c = c.new.ensures ∙ numbers_differ _ _ c.if-number-edition.false
