-- `rules_judge::has` meets its contract: the bit of a byte. Assumes nothing.
use mathlib.Core.Logic.{⊎_elim}
use borrow.Author.Tests.{lt-ltb, le-ltb}
use borrow.Author.Rules.{rules}
use Rattle.rules_judge.proofs.has.Goals as goal

pub returns-else-b-lt128 : goal.returns-else-b-lt128
returns-else-b-lt128 c = rw (le-ltb c.args.b 128 c.if-b-lt128.false)
