-- `front_shown::shown_status` meets its contract, by the second place. Assumes nothing.
use mathlib.Core.Path.{◌≡◌, sym, ap, ◌∙◌}
use native.Mathlib.Omega.{arith}
use lib.ListN.{length, length-take}
use Rattle.card.specs.Content.{value_of}
use Rattle.front.specs.Lines.{status_shown}
use Rattle.front.proofs.Values.{value_long}
use Rattle.front.proofs.Signs.{status_whole_one, status_first, status_whole, status_object_lem, byte_of, first_of}
use borrow.Author.Rules.{rules}
use Rattle.front_shown.proofs.shown_status.Goals as goal

pub returns-then-status-lt2 : goal.returns-then-status-lt2
returns-then-status-lt2 c =
    let held : length c.args.status.bytes ≡ 28 =
    search rules in
    let long : length (value_of c.args.status) ≡ c.args.status.length =
    value_long c.args.status (held) (omega arith) in
    let o = c.args.status in
    let e = sym (status_whole_one (value_of o) (omega (arith, long))) in
    record { result_value = e; value = status_object_lem o o.length (sym (long) ∙ ap length e) }

pub returns-then-value-eq48 : goal.returns-then-value-eq48
returns-then-value-eq48 c =
    let held : length c.args.status.bytes ≡ 28 =
    search rules in
    let long : length (value_of c.args.status) ≡ c.args.status.length =
    value_long c.args.status (held) (omega arith) in
    let o = c.args.status in
    let first = status_first (value_of o) (omega (arith, long)) (byte_of o 1 (omega arith) (omega (arith, held)) ∙ c.if-value-eq48.true) in
    let one : 1 ≡ length (status_shown (value_of o)) = omega (arith, long, ap length first, length-take 1 (value_of o)) in
    record { result_value = first_of o (omega arith) ∙ sym first; value = status_object_lem o 1 one }

pub returns-else-value-eq48 : goal.returns-else-value-eq48
returns-else-value-eq48 c =
    let held : length c.args.status.bytes ≡ 28 =
    search rules in
    let long : length (value_of c.args.status) ≡ c.args.status.length =
    value_long c.args.status (held) (omega arith) in
    let o = c.args.status in
    let e = sym (status_whole (value_of o) (omega (arith, long)) (λ z. c.if-value-eq48.false (sym (byte_of o 1 (omega arith) (omega (arith, held))) ∙ z))) in
    record { result_value = e; value = status_object_lem o o.length (sym (long) ∙ ap length e) }
