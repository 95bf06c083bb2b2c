-- `listing::object_lines::put_object` meets its contract: nothing, or tag, blank and value in one run. Assumes nothing.
use mathlib.Core.Path.{◌≡◌, sym}
use native.Mathlib.Omega.{arith}
use lib.ListN.{length, take}
use lib.Seq.{length-take-le}
use Rattle.ground.specs.Rooms.{hex}
use Rattle.listing.specs.Rooms.{shown}
use Rattle.ground.proofs.Puts.{put_there, put_then}
use Rattle.listing.proofs.Words.{line_none, line_some, line_short, take_part}
use borrow.Author.Rules.{rules}
use Rattle.listing.proofs.object_lines.put_object.Goals as goal

pub returns-then-n-eq0 : goal.returns-then-n-eq0
returns-then-n-eq0 c =
    let e = line_none c.args.tag (shown c.args.item) (omega (arith, c.shown_length-n.ensures.value, c.if-n-eq0.true)) in
    record { put = record { stored = rw e; place = rw e (omega arith) }; upper_bound = omega arith }

pub slice_bounds-bytes-end : goal.slice_bounds-bytes-end
slice_bounds-bytes-end c =
    let held : length c.args.item.bytes ≡ 28 =
    search rules in
    omega (arith, c.shown_length-n.ensures.upper_bound, held)

pub slice_bounds-put_line-end : goal.slice_bounds-put_line-end
slice_bounds-put_line-end c =
    let held : length c.args.item.bytes ≡ 28 =
    search rules in
    sym (length-take-le _ _ (omega (arith, c.shown_length-n.ensures.upper_bound, held)))

pub put_line-requires : goal.put_line-requires
unfolding hex
put_line-requires c =
    let held : length c.args.item.bytes ≡ 28 =
    search rules in
    let t = length-take-le c.shown_length-n.result c.args.item.bytes (omega (arith, c.shown_length-n.ensures.upper_bound, held)) in
    let one = put_there c.put_hex-behind_tag.ensures.value c.put_hex-behind_tag.ensures.room_after (omega arith) in
    let two = put_there c.put_byte-start.ensures.value c.put_byte-start.ensures.room_after (omega (arith, one.place)) in
    omega (arith, one.place, two.place, c.shown_length-n.ensures.upper_bound, t)

pub returns : goal.returns
unfolding hex
returns c =
    let a = c.args in
    let v = shown a.item in
    let n = c.shown_length-n.ensures in
    let e : take c.shown_length-n.result a.item.bytes ≡ v = rw n.value (take_part a.item.length a.item.bytes) in
    let whole = line_some a.tag v (λ z. c.if-n-eq0.false (omega arith)) in
    let one = put_there c.put_hex-behind_tag.ensures.value c.put_hex-behind_tag.ensures.room_after (omega arith) in
    let two = put_there c.put_byte-start.ensures.value c.put_byte-start.ensures.room_after (omega (arith, one.place)) in
    let put = rw (← whole) at (put_then one (put_then two (rw e at c.put_line.ensures))) in
    record { put = put; upper_bound = omega (arith, put.place, line_short a.tag v, n.value, n.upper_bound) }
