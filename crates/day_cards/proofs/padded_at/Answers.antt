-- `padded_at` meets its contract: before the value's length stands its byte, behind it a blank. Assumes nothing.
use mathlib.Core.Path.{◌≡◌, sym}
use Prim.Native.Nat.{◌<◌}
use native.Mathlib.Omega.{arith}
use lib.ListN.{length}
use Rattle.day.proofs.Padded.{padded_byte, padded_blank}
use borrow.Author.Rules.{rules}
use Rattle.day_cards.proofs.padded_at.Goals as goal

pub returns-then-i-number : goal.returns-then-i-number
returns-then-i-number c =
    let a = c.args in
    let long : length a.number.bytes ≡ 28 = search rules in
    let most : a.number.length < 256 = search rules in
    sym (padded_byte a.number a.i long (omega arith) (omega arith) (omega arith))

pub returns : goal.returns
returns c =
    let a = c.args in
    let long : length a.number.bytes ≡ 28 = search rules in
    let most : a.number.length < 256 = search rules in
    sym (padded_blank a.number a.i long (omega arith) (omega arith) (omega arith))
