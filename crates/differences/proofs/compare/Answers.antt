-- `differences::compare` meets its contract: two tables of places, and the words put from them. Assumes nothing.
use mathlib.Core.Path.{◌≡◌}
use native.Mathlib.Omega.{arith}
use lib.ListN.{length}
use Rattle.differences.proofs.Placed.{Stands, places_refused, places_accepted}
use Rattle.differences.proofs.Told.{compared_first, compared_second, compared_both}
use Rattle.differences.proofs.compare.Goals as goal

pub returns-then-refusal-ne0 : goal.returns-then-refusal-ne0
returns-then-refusal-ne0 c =
    let a = c.args in
    compared_first a.edition a.first.now a.second.now _ (places_refused _ _ _ c.places-one.ensures c.if-refusal-ne0.true) _ c.refused.ensures

pub returns-then-other-ne0 : goal.returns-then-other-ne0
returns-then-other-ne0 c =
    let seventeen : length c.args.edition.rows ≡ 17 = omega arith in
    let first-stands : Stands c.args.edition c.args.first.now c.places-one.result =
    places_accepted _ _ _ (seventeen) c.places-one.ensures c.if-refusal-ne0.false in
    let one = first-stands in
    let a = c.args in
    compared_second a.edition a.first.now a.second.now _ one.is _ (places_refused _ _ _ c.places-two.ensures c.if-other-ne0.true) _ c.refused-then-other-ne0.ensures

pub put_objects-objects-requires : goal.put_objects-objects-requires
put_objects-objects-requires c =
    let seventeen : length c.args.edition.rows ≡ 17 = omega arith in
    let first-stands : Stands c.args.edition c.args.first.now c.places-one.result =
    places_accepted _ _ _ (seventeen) c.places-one.ensures c.if-refusal-ne0.false in
    let second-stands : Stands c.args.edition c.args.second.now c.places-two.result =
    places_accepted _ _ _ (seventeen) c.places-two.ensures c.if-other-ne0.false in
    let both = second-stands in
    (omega arith, (first-stands).inside, both.inside)

pub put_bytes-count-requires : goal.put_bytes-count-requires
put_bytes-count-requires c =
    let seventeen : length c.args.edition.rows ≡ 17 = omega arith in
    let first-stands : Stands c.args.edition c.args.first.now c.places-one.result =
    places_accepted _ _ _ (seventeen) c.places-one.ensures c.if-refusal-ne0.false in
    let second-stands : Stands c.args.edition c.args.second.now c.places-two.result =
    places_accepted _ _ _ (seventeen) c.places-two.ensures c.if-other-ne0.false in
    (omega (arith, c.put_objects-objects.ensures.upper_bound), (first-stands).long, (second-stands).long)

pub returns : goal.returns
returns c =
    let seventeen : length c.args.edition.rows ≡ 17 = omega arith in
    let first-stands : Stands c.args.edition c.args.first.now c.places-one.result =
    places_accepted _ _ _ (seventeen) c.places-one.ensures c.if-refusal-ne0.false in
    let second-stands : Stands c.args.edition c.args.second.now c.places-two.result =
    places_accepted _ _ _ (seventeen) c.places-two.ensures c.if-other-ne0.false in
    let one = first-stands in
    let two = second-stands in
    let a = c.args in
    compared_both a.edition a.first.now a.second.now _ _ one.is two.is one.long two.long _ _ _ _ c.put_objects-objects.ensures.put c.put_bytes-count.ensures _ c.none.ensures
