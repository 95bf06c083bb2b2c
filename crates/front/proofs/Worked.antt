-- The fronts worked through hold: by computation. Assumes nothing.
use mathlib.Core.Path.{◌≡◌, refl}
use mathlib.Core.List.{map}
use Rattle.ground.specs.Lists.{among, leading}
use Rattle.rules.specs.Values.{is_text, holds, judged}
use Rattle.edition.specs.Sets.{permitted}
use Rattle.edition.specs.Rows.{tags, formed_from, formed_of}
use Rattle.edition.specs.Tables.{terminal}
use Rattle.card.specs.Refusals.{gate, or_else, bad_row}
use Rattle.card.specs.Layout.{body}
use Rattle.card.specs.Rules.{entries, fault, first_allowed, last_allowed, sum_fits, names_fit, town_fits}
use Rattle.card.specs.Sums.{sums_refusal}
use Rattle.card.specs.Refusing.{row_refusal, rows_refusal, ends_refusal, template_refusal, content_refusal, edition_refusal}
use Rattle.front.specs.Lines.{sign_of, addition_sign, status_shown, spaced, first_of, second_of, field, name_line, family_line, number_line, lines_of}
use Rattle.front.specs.Refusing.{underscored, lines_refusal, print_refusal}
use Rattle.front.specs.Worked.{fronts, printed}

pub worked : map printed fronts ≡ fronts
unfolding fronts printed terminal among leading permitted is_text holds judged tags formed_from formed_of gate or_else bad_row body entries fault first_allowed last_allowed sum_fits names_fit town_fits sums_refusal row_refusal rows_refusal ends_refusal template_refusal content_refusal edition_refusal sign_of addition_sign status_shown spaced first_of second_of field name_line family_line number_line lines_of underscored lines_refusal print_refusal
worked = refl
