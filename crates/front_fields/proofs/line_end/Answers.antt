-- `front_fields::line_end` meets its contract: names alone may be longer than a line. Assumes nothing.
use mathlib.Core.Path.{◌≡◌, sym, ap, ◌∙◌}
use Prim.Native.Nat.{ℕ}
use native.Mathlib.Omega.{arith}
use lib.ListN.{length}
use Rattle.card.specs.Content.{value_of}
use Rattle.front.specs.Placing.{spaced_size, line_end}
use Rattle.front.proofs.Values.{value_long}
use Rattle.front.proofs.Sizes.{capped_held, capped_past, end_long}
use borrow.Author.Rules.{rules}
use Rattle.front_fields.proofs.line_end.Goals as goal

pub returns-then-names-gt28 : goal.returns-then-names-gt28
returns-then-names-gt28 c = let a = c.args in end_long a.names (length (value_of a.part)) (omega arith)

pub returns-then-size-le28 : goal.returns-then-size-le28
unfolding line_end
returns-then-size-le28 c =
    let size : c.spaced_size-size.result ≡ spaced_size c.args.names (length (value_of c.args.part)) =
    let held : length c.args.part.bytes ≡ 28 = search rules in
    c.spaced_size-size.ensures ∙ ap (λ (k : ℕ). spaced_size c.args.names k) (sym (value_long c.args.part held (omega arith))) in
    let a = c.args in
    size ∙ sym (capped_held (spaced_size a.names (length (value_of a.part))) (omega (arith, size)))

pub returns-else-size-le28 : goal.returns-else-size-le28
unfolding line_end
returns-else-size-le28 c =
    let size : c.spaced_size-size.result ≡ spaced_size c.args.names (length (value_of c.args.part)) =
    let held : length c.args.part.bytes ≡ 28 = search rules in
    c.spaced_size-size.ensures ∙ ap (λ (k : ℕ). spaced_size c.args.names k) (sym (value_long c.args.part held (omega arith))) in
    let a = c.args in
    sym (capped_past (spaced_size a.names (length (value_of a.part))) (omega (arith, size)))
