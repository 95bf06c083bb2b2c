-- `files::words::choose` meets its contract: its tests are those of the definition. Assumes nothing.
use mathlib.Core.Path.{◌≡◌, refl, sym, ◌∙◌}
use mathlib.Core.Bool.{true, false}
use Rattle.ground.specs.Lists.{same_list}
use Rattle.files.specs.Words.{terminal_word, chosen}
use Rattle.files.proofs.words.choose.Goals as goal

pub returns-then-not-given : goal.returns-then-not-given
unfolding chosen
returns-then-not-given c =
    let none : c.args.given ≡ false = c.if-not-given.true in
    rw none refl

pub returns-then-is_same : goal.returns-then-is_same
unfolding chosen
returns-then-is_same c =
    let same : same_list c.args.word.now terminal_word ≡ true = sym c.is_same.ensures ∙ c.if-is_same.true in
    let some : c.args.given ≡ true = c.if-not-given.false in
    rw (some, same) refl

pub returns : goal.returns
unfolding chosen
returns c =
    let other : same_list c.args.word.now terminal_word ≡ false = sym c.is_same.ensures ∙ c.if-is_same.false in
    let some : c.args.given ≡ true = c.if-not-given.false in
    rw (some, other) refl
