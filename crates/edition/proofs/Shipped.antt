-- The shipped editions are well formed, each by one computed test. Assumes nothing.
use mathlib.Core.Path.{◌≡◌, refl}
use Rattle.edition.specs.declared.Formed.TheVariants.{Well}
use Rattle.edition.specs.Rows.{formed_from, formed_of}
use Rattle.edition.specs.Tables.{terminal, issue}

pub terminal_formed : formed_of terminal ≡ Well
unfolding terminal formed_from formed_of
terminal_formed = refl

pub issue_formed : formed_of issue ≡ Well
unfolding issue formed_from formed_of
issue_formed = refl
