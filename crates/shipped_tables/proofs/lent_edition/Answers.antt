-- `lent_edition` meets its contract: the bytes of a shipped table say its edition, which is well formed. Assumes nothing.
use mathlib.Core.Path.{sym, ◌∙◌}
use Rattle.edition.specs.Tables.{table, terminal, issue}
use Rattle.shipped_tables.proofs.Owns.{own_table, terminal_shipped, issue_shipped}
use Rattle.shipped_tables.proofs.lent_edition.Goals as goal

pub returns-then-is_terminal : goal.returns-then-is_terminal
unfolding terminal table
returns-then-is_terminal c = own_table terminal _ terminal_shipped (sym c.is_terminal.ensures ∙ c.if-is_terminal.true)

pub returns-then-is_issue : goal.returns-then-is_issue
unfolding issue table
returns-then-is_issue c = own_table issue _ issue_shipped (sym c.is_issue.ensures ∙ c.if-is_issue.true)
