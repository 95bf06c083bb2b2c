-- `nesting_answer::is_formed` meets its contract: no two answers of `formed` are told alike. Assumes nothing.
use mathlib.Core.Path.{◌≡◌, sym, ◌∙◌}
use Rattle.edition.specs.Rows.{formed_of}
use Rattle.edition.proofs.Rows.{told_apart}
use Rattle.nesting_answer.proofs.is_formed.Goals as goal

pub returns-in-Well : goal.returns-in-Well
returns-in-Well c =
    let formed-is : formed_of c.args.edition ≡ c.formed-formed.result =
    sym (told_apart _ _ c.formed-formed.ensures) in
    rw (formed-is ∙ c.in-Well.is)

pub returns-in-Bad : goal.returns-in-Bad
returns-in-Bad c =
    let formed-is : formed_of c.args.edition ≡ c.formed-formed.result =
    sym (told_apart _ _ c.formed-formed.ensures) in
    rw (formed-is ∙ c.in-Bad.is)

pub returns-in-Unnumbered : goal.returns-in-Unnumbered
returns-in-Unnumbered c =
    let formed-is : formed_of c.args.edition ≡ c.formed-formed.result =
    sym (told_apart _ _ c.formed-formed.ensures) in
    rw (formed-is ∙ c.in-Unnumbered.is)
