-- `Record::empty` gives the empty record: the constant is all 0. Assumes nothing.
use mathlib.Core.Path.{refl}
use Rattle.card.specs.Content.{empty_record}
use Rattle.card.proofs.Record.empty.Goals as goal

pub returns : goal.returns
unfolding empty_record
returns c = refl
