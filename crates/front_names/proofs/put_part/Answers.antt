-- `front_names::put_part` meets its contract, by its test. Assumes nothing.
use mathlib.Core.Path.{◌≡◌, ap}
use mathlib.Core.List.{◌∷◌}
use native.Mathlib.Omega.{arith}
use lib.ListN.{length}
use Rattle.ground.proofs.Puts.{put_there}
use Rattle.card.specs.Content.{value_of}
use Rattle.front.specs.Placing.{behind}
use Rattle.front.proofs.Values.{value_long}
use Rattle.front.proofs.Spaced.{behind_alone, behind_blank}
use Rattle.front.proofs.Placed.{value_put, value_then}
use borrow.Author.Rules.{rules}
use Rattle.front_names.proofs.put_part.Goals as goal

pub returns-then-names-n : goal.returns-then-names-n
returns-then-names-n c =
    let long : length (value_of c.args.part) ≡ c.args.part.length =
    let held : length c.args.part.bytes ≡ 28 = search rules in
    value_long c.args.part held (omega arith) in
    let alone : behind c.args.names (value_of c.args.part) ≡ value_of c.args.part =
    behind_alone c.args.names c.args.part.length (value_of c.args.part) (long) c.if-names-n.true in
    let o = c.args.part in
    rw (alone)
    (value_put o.length (value_of o) (long) (omega (arith, c.requires.0, long)) c.put_field.ensures.value c.put_field.ensures.room_after (omega (arith, c.requires.1, ap length (alone), long)))

pub returns : goal.returns
returns c =
    let long : length (value_of c.args.part) ≡ c.args.part.length =
    let held : length c.args.part.bytes ≡ 28 = search rules in
    value_long c.args.part held (omega arith) in
    let blank : behind c.args.names (value_of c.args.part) ≡ 0x20 ∷ value_of c.args.part =
    behind_blank c.args.names c.args.part.length (value_of c.args.part) (long) c.if-names-n.false in
    let o = c.args.part in
    let one = put_there c.put_byte-place.ensures.value c.put_byte-place.ensures.room_after (omega (arith, c.requires.1, ap length (blank))) in
    rw (blank)
    (value_then o.length (value_of o) (long) (omega (arith, c.requires.0, long)) one c.put_field-2.ensures.value c.put_field-2.ensures.room_after (omega (arith, c.requires.1, ap length (blank), long)))
