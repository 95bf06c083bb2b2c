-- No second answer of the questions asked of a payer's table: nested, well formed, and a card that shows it; stated as in `Determined`. Assumes nothing.
use mathlib.Core.Path.{◌≡◌, sym, ◌∙◌}
use Rattle.nesting_answer.proofs.nested.Reads as nested
use Rattle.nesting_witness.proofs.witness.Reads as witness
use Rattle.report_answer.proofs.report.Reads as report
use Rattle.calls_tables.proofs.nested.Reads as calls-nested
use Rattle.choosing_least.proofs.choose.Reads as choose
use Rattle.example_card.proofs.example.Reads as example
use Rattle.ground_pick.proofs.pick.Reads as pick
use Rattle.edition.proofs.by_rule.Reads as by-rule
use Rattle.nesting_rules.proofs.number_of.Reads as number_of_lem
use Rattle.nesting_rules.proofs.rule_of.Reads as rule-of
use Rattle.nesting_rules.proofs.numbers_in.Reads as numbers-in
use Rattle.nesting_clauses.proofs.clause_of.Reads as nesting-clause
use Rattle.nesting_rows.proofs.rows_nested.Reads as rows-nested
use Rattle.choosing_sums.proofs.sum_fits.Reads as sum_fits
use Rattle.choosing_fits.proofs.fits_all.Reads as fits_all
use Rattle.choosing_weight.proofs.weight_of.Reads as weight-of
use Rattle.example_narrow.proofs.narrow.Reads as narrow
use Rattle.example_narrow.proofs.part_of.Reads as part_of
use Rattle.example_rows.proofs.rows_for.Reads as rows-for
use Rattle.example_sums.proofs.is_grouped.Reads as is-grouped
use Rattle.example_sums.proofs.start_of.Reads as start_of_lem
use Rattle.example_sums.proofs.place_of.Reads as place_of
use Rattle.example_sums.proofs.by_place.Reads as by_place
use Rattle.example_lengths.proofs.length_at.Reads as length_at
use Rattle.example_values.proofs.object_for.Reads as object-for
use Rattle.example_objects.proofs.objects_of.Reads as objects-of
use Rattle.example_record.proofs.card_of.Reads as card-of
use Rattle.example_choice.proofs.chosen_card.Reads as chosen-card
use Rattle.report_rules.proofs.rule_clause.Reads as rule-clause
use Rattle.report_clauses.proofs.clause_of.Reads as report-clause
use Rattle.report_rows.proofs.report_rows.Reads as report-rows
use Rattle.kvk.proofs.kvk_nested.Reads as kvk-nested

pub nested_once : (κs : _) (a : _) (z y : _) (e f : _) → nested.Post κs a z e → nested.Post κs a y f → z ≡ y
nested_once κs a z y e f p q = p ∙ sym q

pub witness_once : (κs : _) (a : _) (z y : _) (e f : _) → witness.Post κs a z e → witness.Post κs a y f → z ≡ y
witness_once κs a z y e f p q = p ∙ sym q

pub report_once : (κs : _) (a : _) (z y : _) (e f : _) → report.Post κs a z e → report.Post κs a y f → z ≡ y
report_once κs a z y e f p q = p ∙ sym q

pub choose_once : (κs : _) (a : _) (z y : _) (e f : _) → choose.Post κs a z e → choose.Post κs a y f → z ≡ y
choose_once κs a z y e f p q = p ∙ sym q

pub example_once : (κs : _) (a : _) (z y : _) (e f : _) → example.Post κs a z e → example.Post κs a y f → z ≡ y
example_once κs a z y e f p q = p ∙ sym q

pub kvk_nested_once : (κs : _) (a : _) (z y : _) (e f : _) → kvk-nested.Post κs a z e → kvk-nested.Post κs a y f → z ≡ y
kvk_nested_once κs a z y e f p q = p ∙ sym q

pub calls_nested_once : (κs : _) (a : _) (z y : _) (e f : _) → calls-nested.Post κs a z e → calls-nested.Post κs a y f → z ≡ y
calls_nested_once κs a z y e f p q = p ∙ sym q

pub pick_once : (g h i j k : _) (κs : _) (a : _) (z y : _) (e f : _) → pick.Post g h i j k κs a z e → pick.Post g h i j k κs a y f → z ≡ y
pick_once g h i j k κs a z y e f p q = p ∙ sym q

pub by_rule_once : (κs : _) (a : _) (z y : _) (e f : _) → by-rule.Post κs a z e → by-rule.Post κs a y f → z ≡ y
by_rule_once κs a z y e f p q = p ∙ sym q

pub number_of_once : (κs : _) (a : _) (z y : _) (e f : _) → number_of_lem.Post κs a z e → number_of_lem.Post κs a y f → z ≡ y
number_of_once κs a z y e f p q = p ∙ sym q

pub rule_of_once : (κs : _) (a : _) (z y : _) (e f : _) → rule-of.Post κs a z e → rule-of.Post κs a y f → z ≡ y
rule_of_once κs a z y e f p q = p ∙ sym q

pub numbers_in_once : (κs : _) (a : _) (z y : _) (e f : _) → numbers-in.Post κs a z e → numbers-in.Post κs a y f → z ≡ y
numbers_in_once κs a z y e f p q = p ∙ sym q

pub nesting_clause_once : (κs : _) (a : _) (z y : _) (e f : _) → nesting-clause.Post κs a z e → nesting-clause.Post κs a y f → z ≡ y
nesting_clause_once κs a z y e f p q = p ∙ sym q

pub rows_nested_once : (κs : _) (a : _) (z y : _) (e f : _) → rows-nested.Post κs a z e → rows-nested.Post κs a y f → z ≡ y
rows_nested_once κs a z y e f p q = p ∙ sym q

pub sum_fits_once : (κs : _) (a : _) (z y : _) (e f : _) → sum_fits.Post κs a z e → sum_fits.Post κs a y f → z ≡ y
sum_fits_once κs a z y e f p q = p ∙ sym q

pub fits_all_once : (κs : _) (a : _) (z y : _) (e f : _) → fits_all.Post κs a z e → fits_all.Post κs a y f → z ≡ y
fits_all_once κs a z y e f p q = p ∙ sym q

pub weight_of_once : (κs : _) (a : _) (z y : _) (e f : _) → weight-of.Post κs a z e → weight-of.Post κs a y f → z ≡ y
weight_of_once κs a z y e f p q = p ∙ sym q

pub narrow_once : (κs : _) (a : _) (z y : _) (e f : _) → narrow.Post κs a z e → narrow.Post κs a y f → z ≡ y
narrow_once κs a z y e f p q = p ∙ sym q

pub part_of_once : (κs : _) (a : _) (z y : _) (e f : _) → part_of.Post κs a z e → part_of.Post κs a y f → z ≡ y
part_of_once κs a z y e f p q = p ∙ sym q

pub rows_for_once : (κs : _) (a : _) (z y : _) (e f : _) → rows-for.Post κs a z e → rows-for.Post κs a y f → z ≡ y
rows_for_once κs a z y e f p q = p ∙ sym q

pub is_grouped_once : (κs : _) (a : _) (z y : _) (e f : _) → is-grouped.Post κs a z e → is-grouped.Post κs a y f → z ≡ y
is_grouped_once κs a z y e f p q = p ∙ sym q

pub start_of_once : (κs : _) (a : _) (z y : _) (e f : _) → start_of_lem.Post κs a z e → start_of_lem.Post κs a y f → z ≡ y
start_of_once κs a z y e f p q = p.0 ∙ sym q.0

pub place_of_once : (κs : _) (a : _) (z y : _) (e f : _) → place_of.Post κs a z e → place_of.Post κs a y f → z ≡ y
place_of_once κs a z y e f p q = p ∙ sym q

pub by_place_once : (κs : _) (a : _) (z y : _) (e f : _) → by_place.Post κs a z e → by_place.Post κs a y f → z ≡ y
by_place_once κs a z y e f p q = p ∙ sym q

pub length_at_once : (κs : _) (a : _) (z y : _) (e f : _) → length_at.Post κs a z e → length_at.Post κs a y f → z ≡ y
length_at_once κs a z y e f p q = p ∙ sym q

pub object_for_once : (κs : _) (a : _) (z y : _) (e f : _) → object-for.Post κs a z e → object-for.Post κs a y f → z ≡ y
object_for_once κs a z y e f p q = p ∙ sym q

pub objects_of_once : (κs : _) (a : _) (z y : _) (e f : _) → objects-of.Post κs a z e → objects-of.Post κs a y f → z ≡ y
objects_of_once κs a z y e f p q = p ∙ sym q

pub card_of_once : (κs : _) (a : _) (z y : _) (e f : _) → card-of.Post κs a z e → card-of.Post κs a y f → z ≡ y
card_of_once κs a z y e f p q = p ∙ sym q

pub chosen_card_once : (κs : _) (a : _) (z y : _) (e f : _) → chosen-card.Post κs a z e → chosen-card.Post κs a y f → z ≡ y
chosen_card_once κs a z y e f p q = p ∙ sym q

pub rule_clause_once : (κs : _) (a : _) (z y : _) (e f : _) → rule-clause.Post κs a z e → rule-clause.Post κs a y f → z ≡ y
rule_clause_once κs a z y e f p q = p ∙ sym q

pub report_clause_once : (κs : _) (a : _) (z y : _) (e f : _) → report-clause.Post κs a z e → report-clause.Post κs a y f → z ≡ y
report_clause_once κs a z y e f p q = p ∙ sym q

pub report_rows_once : (κs : _) (a : _) (z y : _) (e f : _) → report-rows.Post κs a z e → report-rows.Post κs a y f → z ≡ y
report_rows_once κs a z y e f p q = p ∙ sym q
