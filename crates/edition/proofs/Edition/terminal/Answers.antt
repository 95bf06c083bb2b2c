-- `Edition::terminal` gives the shipped table: the constant is the column of the document. Assumes nothing.
use mathlib.Core.Path.{refl}
use Rattle.edition.specs.Tables.{terminal}
use Rattle.edition.proofs.Edition.terminal.Goals as goal

pub returns : goal.returns
unfolding terminal
returns c = refl
