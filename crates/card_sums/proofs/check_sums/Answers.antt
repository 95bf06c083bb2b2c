-- `card_sums::check_sums` meets its contract: the names first. Assumes nothing.
use mathlib.Core.Path.{sym, ◌∙◌}
use Rattle.card.specs.Refusals.{gate}
use Rattle.card.specs.Rules.{names_fit, town_fits}
use Rattle.card.specs.Sums.{sums_refusal}
use Rattle.card_sums.proofs.check_sums.Goals as goal

pub returns-then-not-names_fit : goal.returns-then-not-names_fit
unfolding sums_refusal names_fit town_fits gate
returns-then-not-names_fit c =
    let names = sym c.names_fit.ensures ∙ c.if-not-names_fit.true in
    rw names c.refuse_group.ensures

pub returns-then-not-town_fits : goal.returns-then-not-town_fits
unfolding sums_refusal names_fit town_fits gate
returns-then-not-town_fits c =
    let names = sym c.names_fit.ensures ∙ c.if-not-names_fit.false in
    let town = sym c.town_fits.ensures ∙ c.if-not-town_fits.true in
    rw (names, town) c.refuse_group-then-not-town_fits.ensures

pub returns : goal.returns
unfolding sums_refusal names_fit town_fits gate
returns c =
    let names = sym c.names_fit.ensures ∙ c.if-not-names_fit.false in
    let town = sym c.town_fits.ensures ∙ c.if-not-town_fits.false in
    rw (names, town) c.none.ensures
