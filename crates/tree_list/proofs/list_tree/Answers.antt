-- The survey says how it ends, and the second reading fills the room.
use Rattle.std.proofs.Common.{◌∙◌, arith}
use Rattle.std.proofs.lemmas.Result.{err_from_is_err_and}
use Rattle.tree.proofs.Whole.{too_long, tree_refused, tree_small, tree_listed, few_words}
use Rattle.tree_list.proofs.list_tree.Goals as goal

pub returns-then-bytes-gt4096-clause-value : goal.returns-then-bytes-gt4096-clause-value
returns-then-bytes-gt4096-clause-value c = rw c.new.ensures (too_long c.args.bytes.now c.args.room.now c.if-bytes-gt4096.true).0

pub returns-then-bytes-gt4096-clause-room_after : goal.returns-then-bytes-gt4096-clause-room_after
returns-then-bytes-gt4096-clause-room_after c = (too_long c.args.bytes.now c.args.room.now c.if-bytes-gt4096.true).1

pub returns-in_err-first-clause-value : goal.returns-in_err-first-clause-value
returns-in_err-first-clause-value c =
    let x = c.in_err-first.field-0.0 in
    let p = err_from_is_err_and c.from_residual.result c.from_residual.ensures.1 in
    rw (p.1, p.2) (tree_refused c.args.bytes.now c.args.room.now c.if-bytes-gt4096.false x.number x.place c.in_err-first.ensures).0

pub returns-in_err-first-clause-room_after : goal.returns-in_err-first-clause-room_after
returns-in_err-first-clause-room_after c =
    let x = c.in_err-first.field-0.0 in
    (tree_refused c.args.bytes.now c.args.room.now c.if-bytes-gt4096.false x.number x.place c.in_err-first.ensures).1

pub returns-then-room-first-clause-value : goal.returns-then-room-first-clause-value
returns-then-room-first-clause-value c =
    rw c.new-then-room-first.ensures (tree_small c.args.bytes.now c.args.room.now c.if-bytes-gt4096.false c.in_ok-first.first.words c.in_ok-first.first.used c.in_ok-first.ensures c.if-room-first.true).0

pub returns-then-room-first-clause-room_after : goal.returns-then-room-first-clause-room_after
returns-then-room-first-clause-room_after c = (tree_small c.args.bytes.now c.args.room.now c.if-bytes-gt4096.false c.in_ok-first.first.words c.in_ok-first.first.used c.in_ok-first.ensures c.if-room-first.true).1

pub overflow_cast-result : goal.overflow_cast-result
overflow_cast-result c = omega (arith, few_words c.args.bytes.now c.args.room.now c.in_ok-first.first.words c.in_ok-first.first.used c.in_ok-first.ensures)

pub returns-clause-value : goal.returns-clause-value
returns-clause-value c =
    (tree_listed c.args.bytes.now c.args.room.now c.if-bytes-gt4096.false c.in_ok-first.first.words c.in_ok-first.first.used c.in_ok-first.ensures c.if-room-first.false c.read_list.result c.read_list.new.room c.read_list.ensures).0

pub returns-clause-room_after : goal.returns-clause-room_after
returns-clause-room_after c =
    (tree_listed c.args.bytes.now c.args.room.now c.if-bytes-gt4096.false c.in_ok-first.first.words c.in_ok-first.first.used c.in_ok-first.ensures c.if-room-first.false c.read_list.result c.read_list.new.room c.read_list.ensures).1
