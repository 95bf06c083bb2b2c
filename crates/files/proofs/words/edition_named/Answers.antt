-- `files::words::edition_named` meets its contract: its tests are those of the definition. Assumes nothing.
use Rattle.files.specs.Words.{edition_named}
use Rattle.files.proofs.words.edition_named.Goals as goal

pub returns-then-is_same : goal.returns-then-is_same
unfolding edition_named
returns-then-is_same c = rw (← c.is_same.ensures, c.if-is_same.true)

pub returns-then-is_same-2 : goal.returns-then-is_same-2
unfolding edition_named
returns-then-is_same-2 c = rw (← c.is_same.ensures, c.if-is_same.false, ← c.is_same-2.ensures, c.if-is_same-2.true)

pub returns : goal.returns
unfolding edition_named
returns c = rw (← c.is_same.ensures, c.if-is_same.false, ← c.is_same-2.ensures, c.if-is_same-2.false)
