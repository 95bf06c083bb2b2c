-- `put_table::put` meets its contract: the first line and the rows behind it are the text. Assumes nothing.
use mathlib.Core.Path.{refl, sym, ◌∙◌}
use Prim.Native.Nat.{◌≤◌}
use native.Mathlib.Nat.{zero-add}
use native.Mathlib.Omega.{arith}
use lib.ListN.{length}
use lib.Seq.{length-take-le}
use borrow.Author.Tests.{lt-leb, le-leb}
use Rattle.ground.proofs.Puts.{put_then}
use Rattle.table_text.specs.Texts.{table_text}
use Rattle.put_table.proofs.put.Goals as goal

pub returns-then-room-lt-LONGEST : goal.returns-then-room-lt-LONGEST
returns-then-room-lt-LONGEST c =
    let small = lt-leb 3132 (length c.args.room.now) (omega arith) in
    record { value = rw small; room_after = rw small; within = (omega arith, refl) }

pub returns : goal.returns
unfolding table_text
returns c =
    let a = c.args in
    let all = put_then c.put_head-start.ensures.put c.put_rows.ensures.put in
    let large = le-leb 3132 (length a.room.now) (omega arith) in
    let fits : c.put_rows.result ≤ length c.put_rows.new.room = omega (arith, c.put_head-start.ensures.upper_bound, c.put_rows.ensures.upper_bound) in
    record { value = rw large (all.place ∙ zero-add _); room_after = rw large all.stored; within = (fits, sym (length-take-le _ _ fits)) }
