-- `listing::list` meets its contract: what is listed of a reading is its text. Assumes nothing.
use mathlib.Core.Path.{refl, sym, ◌∙◌}
use Prim.Native.Nat.{◌≤◌}
use native.Mathlib.Nat.{zero-add}
use native.Mathlib.Omega.{arith}
use lib.ListN.{length}
use lib.Seq.{length-take-le}
use borrow.Author.Tests.{lt-leb, le-leb}
use Rattle.listing.proofs.Shown.{listed}
use Rattle.listing.proofs.list.Goals as goal

pub returns-then-room-lt-LONGEST : goal.returns-then-room-lt-LONGEST
returns-then-room-lt-LONGEST c =
    let small = lt-leb 521 (length c.args.room.now) (omega arith) in
    record { value = rw small; room_after = rw small; within = (omega arith, refl) }

pub returns : goal.returns
returns c =
    let a = c.args in
    let put = rw (listed a.edition a.image.now c.read.result c.read.ensures) at c.put_reading.ensures.put in
    let large = le-leb 521 (length a.room.now) (omega arith) in
    let fits : c.put_reading.result ≤ length c.put_reading.new.room = omega (arith, c.put_reading.ensures.upper_bound) in
    record { value = rw large (put.place ∙ zero-add _); room_after = rw large put.stored; within = (fits, sym (length-take-le _ _ fits)) }
