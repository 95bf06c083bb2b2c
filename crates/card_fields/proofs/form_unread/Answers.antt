-- `card_fields::form_unread` meets its contract, form by form. Assumes nothing.
use native.Mathlib.Omega.{arith}
use Rattle.card.proofs.Forms.{unread_none, unread_other, unread_cut, unread_two}
use Rattle.card_fields.proofs.form_unread.Goals as goal

pub returns-then-bytes-lt1 : goal.returns-then-bytes-lt1
returns-then-bytes-lt1 c = rw (unread_none c.args.bytes.now c.if-bytes-lt1.true)

pub returns-then-b : goal.returns-then-b
returns-then-b c = rw (unread_other c.args.bytes.now (omega arith) c.if-b.true)

pub returns-then-bytes-lt2 : goal.returns-then-bytes-lt2
returns-then-bytes-lt2 c = rw (unread_cut c.args.bytes.now (omega arith) c.if-bytes-lt2.true (omega arith))

pub returns : goal.returns
returns c = rw (unread_two c.args.bytes.now (omega arith) (omega arith))
