-- `card_editions::refuse_edition` meets its contract: the answer of `formed` is the first bad row, or none. Assumes nothing.
use mathlib.Core.Path.{◌≡◌, sym, ap, ◌∙◌}
use Rattle.edition.specs.Rows.{formed_of}
use Rattle.edition.proofs.Rows.{told_apart}
use Rattle.card.specs.Refusals.{refuse, bad_row}
use Rattle.card_editions.proofs.refuse_edition.Goals as goal

pub returns-in-Well : goal.returns-in-Well
unfolding bad_row
returns-in-Well c =
    let formed-is : formed_of c.args.edition ≡ c.formed.result =
    sym (told_apart _ _ c.formed.ensures) in
    rw (formed-is ∙ c.in-Well.is)

pub returns-in-Bad : goal.returns-in-Bad
unfolding bad_row
returns-in-Bad c =
    let formed-is : formed_of c.args.edition ≡ c.formed.result =
    sym (told_apart _ _ c.formed.ensures) in
    c.new.ensures ∙ ap (refuse 2 0) c.tag_of.ensures ∙ sym (ap bad_row (formed-is ∙ c.in-Bad.is))

pub returns-in-Unnumbered : goal.returns-in-Unnumbered
unfolding bad_row
returns-in-Unnumbered c =
    let formed-is : formed_of c.args.edition ≡ c.formed.result =
    sym (told_apart _ _ c.formed.ensures) in
    rw (formed-is ∙ c.in-Unnumbered.is) c.new-in-Unnumbered.ensures
