-- `edition::last_formed` meets its contract: {1} is a well-formed set, so only rule, requirement and set are asked. Assumes nothing.
use mathlib.Core.Path.{sym, ◌∙◌}
use Rattle.edition.proofs.Rows.{checksum_formed}
use Rattle.edition.proofs.last_formed.Goals as goal

pub returns : goal.returns
returns c = c.by_rule.ensures ∙ sym (checksum_formed c.args.row)
