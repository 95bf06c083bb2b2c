-- `front_fields::put_places` meets its contract: the first bytes of the value, and blanks to the end of the places. Assumes nothing.
use mathlib.Core.Path.{◌≡◌, sym}
use Prim.Native.Nat.{◌≤◌}
use native.Mathlib.Omega.{arith}
use lib.ListN.{length, length-take}
use lib.Seq.{length-take-le}
use Rattle.card.specs.Content.{value_of}
use Rattle.front.proofs.Placed.{least_most, first_bytes, places_filled, behind_most}
use borrow.Author.Rules.{rules}
use Rattle.front_fields.proofs.put_places.Goals as goal

pub slice_bounds-value-end : goal.slice_bounds-value-end
slice_bounds-value-end c =
    let held : length c.args.item.bytes ≡ 28 =
    search rules in
    let few : c.least-n.result ≤ c.args.places =
    let a = c.args in omega (arith, c.least-n.ensures, least_most a.item.length a.places) in
    let within : c.least-n.result ≤ length c.args.item.bytes =
    omega (arith, few, held, c.requires.0) in
    omega (arith, within)

pub slice_bounds-put-end : goal.slice_bounds-put-end
slice_bounds-put-end c =
    let held : length c.args.item.bytes ≡ 28 =
    search rules in
    let few : c.least-n.result ≤ c.args.places =
    let a = c.args in omega (arith, c.least-n.ensures, least_most a.item.length a.places) in
    let within : c.least-n.result ≤ length c.args.item.bytes =
    omega (arith, few, held, c.requires.0) in
    sym (length-take-le _ _ (within))

pub overflow_sub-at : goal.overflow_sub-at
overflow_sub-at c =
    let few : c.least-n.result ≤ c.args.places =
    let a = c.args in omega (arith, c.least-n.ensures, least_most a.item.length a.places) in
    omega (arith, behind_most _ _ _ c.put-behind.ensures.value, length-take c.least-n.result c.args.item.bytes, few)

pub returns : goal.returns
returns c =
    let held : length c.args.item.bytes ≡ 28 =
    search rules in
    let a = c.args in
    let first = first_bytes a.item a.places (omega (arith, held, c.requires.0)) c.least-n.result c.least-n.ensures in
    places_filled a.places (value_of a.item) c.requires.1 (rw first c.put-behind.ensures.value) (rw first c.put-behind.ensures.room_after) c.fill.ensures.value c.fill.ensures.room_after
