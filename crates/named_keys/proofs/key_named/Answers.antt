-- `named_keys::key_named`: the lines of the two byte strings are the names and the tags. Assumes nothing.
use Rattle.card_lines.specs.Lines.{lines}
use Rattle.card_lines.specs.Keys.{names, tags}
use Rattle.card_lines.proofs.Listings.{by_name, by_tag}
use Rattle.named_keys.proofs.key_named.Goals as goal

pub returns-then-by_name-lt20 : goal.returns-then-by_name-lt20
unfolding lines names
returns-then-by_name-lt20 c = by_name _ _ c.line_with-by_name.ensures c.if-by_name-lt20.true

pub returns : goal.returns
unfolding lines names tags
returns c = by_tag _ _ _ c.line_with-by_name.ensures c.if-by_name-lt20.false c.line_with.ensures
