-- `edition::object_formed` meets its contract, by whether the rule asks for a set of its own, which is well formed. Assumes nothing.
use mathlib.Core.Path.{sym, ◌∙◌}
use Rattle.edition.proofs.Rows.{plain_formed, special_formed}
use Rattle.edition.proofs.object_formed.Goals as goal

pub returns-then-is_plain : goal.returns-then-is_plain
returns-then-is_plain c =
    c.set_formed.ensures ∙ sym (plain_formed c.args.row (sym c.is_plain.ensures ∙ c.if-is_plain.true))

pub returns : goal.returns
returns c =
    c.by_rule.ensures ∙ sym (special_formed c.args.row (sym c.is_plain.ensures ∙ c.if-is_plain.false))
