-- `table::write_places` meets its contract. The invariant: what is left to put, from place k on, makes the table. Assumes nothing.
use mathlib.Core.Path.{◌≡◌, refl, sym, ◌∙◌}
use Prim.Native.Nat.{◌<◌}
use native.Mathlib.Omega.{arith}
use borrow.Author.Tests.{ne_eqb}
use borrow.Author.Rules.{rules}
use lib.ListN.{length}
use Rattle.ground.proofs.Puts.{left_start, left_next, left_end, put_there}
use Rattle.ground.proofs.Stores.{sets_whole}
use Rattle.wire.specs.PlaceBytes.{places_room}
use Rattle.wire.proofs.Pairs.{paired_next, paired_end, places_room_lem}
use Rattle.wire.proofs.table.write_places.Goals as goal

pub returns-then-room-ne32 : goal.returns-then-room-ne32
unfolding places_room
returns-then-room-ne32 c = rw (ne_eqb _ 32 c.if-room-ne32.true)

pub loop-k-init : goal.loop-k-init
loop-k-init c = (refl, refl, left_start _ _ _)

pub loop-k-preserved : goal.loop-k-preserved
loop-k-preserved c =
    let starts : length c.args.table.starts ≡ 16 =
    search rules in
    let lengths : length c.args.table.lengths ≡ 16 =
    search rules in
    let l = c.loop-k in
    let t = c.args.table in
    let a : l.k < length t.starts = omega (arith, starts) in
    let b : l.k < length t.lengths = omega (arith, lengths) in
    let one = put_there c.put-place.ensures.value c.put-place.ensures.room_after (omega arith) in
    (omega arith, omega (arith, one.place), left_next l.invariant.2 _ _ (paired_next t.starts t.lengths l.k a b) one)

pub returns : goal.returns
returns c =
    let starts : length c.args.table.starts ≡ 16 =
    search rules in
    let l = c.loop-k in
    let t = c.args.table in
    let put = left_end l.invariant.2 (paired_end t.starts t.lengths l.k (omega (arith, starts))) in
    put.stored ∙ sets_whole _ _ (omega (arith, put.place)) ∙ sym (places_room_lem t _ (omega arith))
