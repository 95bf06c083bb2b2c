-- `rules_kinds::kinds` meets its contract: its array is the table of the kinds, by computing. Assumes nothing.
use mathlib.Core.Path.{refl}
use Rattle.ground.specs.Lists.{among}
use Rattle.rules.specs.Values.{is_text}
use Rattle.rules.specs.Kinds.{kinds_from, kind_table}
use Rattle.rules_kinds.proofs.kinds.Goals as goal

pub returns : goal.returns
unfolding kind_table kinds_from is_text among
returns c = refl
