-- `objects_meet::meet_row` meets its contract: where the row's tag stands, what the object reader found there; else the row is missing or absent. Assumes nothing.
use mathlib.Core.Path.{◌≡◌, sym, ap, ◌∙◌}
use mathlib.Core.Bool.{true}
use Prim.Native.Nat.{suc, ◌≤◌}
use lib.ListN.{length, drop}
use Rattle.edition.specs.Rows.{tags}
use Rattle.std.specs.Prelude.{Err}
use Rattle.objects.specs.Objects.{here}
use Rattle.objects.proofs.Finds.{here_some, part_left, answer_is, stands, took, told_off, meets_there, meets_wrong, meets_absent, meets_missing}
use Rattle.objects_meet.proofs.meet_row.Goals as goal

pub slice_bounds-read_object-count : goal.slice_bounds-read_object-count
slice_bounds-read_object-count c =
    let tagged : here c.args.k c.args.part.now ≡ true =
    sym c.is_here.ensures ∙ c.if-is_here.true in
    let some : 1 ≤ length c.args.part.now =
    here_some c.args.k c.args.part.now (tagged) in
    some

pub slice_bounds-read_object-start : goal.slice_bounds-read_object-start
slice_bounds-read_object-start c =
    let tagged : here c.args.k c.args.part.now ≡ true =
    sym c.is_here.ensures ∙ c.if-is_here.true in
    let some : 1 ≤ length c.args.part.now =
    here_some c.args.k c.args.part.now (tagged) in
    some

pub returns-then-row : goal.returns-then-row
returns-then-row c =
    let a = c.args in
    let out = sym c.is_here.ensures ∙ c.if-is_here.false in
    ap Err c.refuse_missing.ensures ∙ meets_missing a.kinds.now a.k a.place a.row a.part.now out c.if-row.true

pub returns : goal.returns
returns c =
    let a = c.args in
    let out = sym c.is_here.ensures ∙ c.if-is_here.false in
    meets_absent a.kinds.now a.k a.place a.row (drop (suc a.k) tags) a.part.now out c.if-row.false

pub returns-in-Ok : goal.returns-in-Ok
returns-in-Ok c =
    let a = c.args in
    let w = c.in-Ok in
    let l = a.part.now in
    let tagged : here a.k l ≡ true = sym c.is_here.ensures ∙ c.if-is_here.true in
    let found = answer_is a.kinds.now a.k a.place a.row (drop 1 l) _ _ (part_left 1 l) c.read_object.ensures ∙ w.is in
    meets_there a.kinds.now a.k a.place a.row (drop (suc a.k) tags) l _ _ tagged
    (took a.kinds.now a.k a.place a.row (drop 1 l) _ w.found (stands a.kinds.now a.k a.place a.row (drop 1 l)) found)

pub returns-in-Err : goal.returns-in-Err
returns-in-Err c =
    let a = c.args in
    let w = c.in-Err in
    let l = a.part.now in
    let tagged : here a.k l ≡ true = sym c.is_here.ensures ∙ c.if-is_here.true in
    let found = answer_is a.kinds.now a.k a.place a.row (drop 1 l) _ _ (part_left 1 l) c.read_object.ensures ∙ w.is in
    let off = told_off a.kinds.now a.k a.place a.row (drop 1 l) _ w.refused (stands a.kinds.now a.k a.place a.row (drop 1 l)) found in
    ap Err c.refuse.ensures ∙ meets_wrong a.kinds.now a.k a.place a.row (drop (suc a.k) tags) l _ tagged off.0
