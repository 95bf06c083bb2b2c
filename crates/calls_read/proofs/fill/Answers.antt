-- `filling::fill` meets its contract: zeros are the empty record, and at the places of an accepted image stand the values of its record. Assumes nothing.
use mathlib.Core.Path.{ap, ◌∙◌}
use native.Mathlib.Omega.{arith}
use lib.ListN.{replicate}
use Rattle.ground.proofs.Puts.{put_whole}
use Rattle.card.specs.declared.Reading.{Reading}
use Rattle.wire_tables.specs.Tables.{edition_from}
use Rattle.wire_records.specs.Records.{record_bytes}
use Rattle.calls_read.proofs.Fills.{empty_bytes, fills_refused, Filled, fills_accepted}
use Rattle.calls_read.proofs.fill.Goals as goal

pub returns-then-refusal-ne0 : goal.returns-then-refusal-ne0
returns-then-refusal-ne0 c =
    let is = fills_refused c.args.table.now c.args.image.now c.places_of-places.result c.places_of-places.ensures c.if-refusal-ne0.true in
    record { value = ap (λ (x : Reading). x.refusal) is; room_after = put_whole _ (replicate 479 0) (omega (arith, c.requires)) c.fill.ensures.room_after ∙ empty_bytes ∙ ap (λ (x : Reading). record_bytes x.content) is }

pub bounds-table-102 : goal.bounds-table-102
bounds-table-102 c =
    let filled : Filled c.args.table.now c.args.image.now c.places_of-places.result c.places_of-places.ensures =
    fills_accepted _ _ _ c.places_of-places.ensures c.if-refusal-ne0.false in
    omega (arith, (filled).size)

pub put_record-requires : goal.put_record-requires
put_record-requires c =
    let filled : Filled c.args.table.now c.args.image.now c.places_of-places.result c.places_of-places.ensures =
    fills_accepted _ _ _ c.places_of-places.ensures c.if-refusal-ne0.false in
    let g = (filled).given in
    (omega (arith, c.requires), g.long, g.inside)

pub returns : goal.returns
unfolding edition_from
returns c =
    let filled : Filled c.args.table.now c.args.image.now c.places_of-places.result c.places_of-places.ensures =
    fills_accepted _ _ _ c.places_of-places.ensures c.if-refusal-ne0.false in
    let f = filled in
    let is = f.given.is ∙ f.under in
    record { value = ap (λ (x : Reading). x.refusal) is; room_after = c.put_record.ensures ∙ ap (λ (x : Reading). record_bytes x.content) is }
