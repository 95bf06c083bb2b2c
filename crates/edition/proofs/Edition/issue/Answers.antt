-- `Edition::issue` gives the shipped table: the constant is the column of the document. Assumes nothing.
use mathlib.Core.Path.{refl}
use Rattle.edition.specs.Tables.{issue}
use Rattle.edition.proofs.Edition.issue.Goals as goal

pub returns : goal.returns
unfolding issue
returns c = refl
