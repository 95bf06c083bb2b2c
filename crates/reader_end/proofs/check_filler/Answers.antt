-- `reader_end::check_filler` meets its contract: the filler, then the last byte. Assumes nothing.
use mathlib.Core.Path.{◌≡◌, sym, ◌∙◌}
use Prim.Native.Nat.{◌+◌}
use native.Mathlib.Omega.{arith}
use borrow.Author.Tests.{ne_eqb}
use Rattle.card.specs.Refusals.{gate}
use Rattle.frame.specs.Checks.{tail_from}
use Rattle.frame.proofs.Tails.{tail_counted, tail_most}
use Rattle.reader_steps.specs.Steps.{tail_at}
use Rattle.reader_end.proofs.check_filler.Goals as goal

pub overflow_add-right : goal.overflow_add-right
overflow_add-right c =
    let counted : c.args.end + c.count_tail.result ≡ tail_from c.args.image.now c.args.end =
    let f = c.requires in
    tail_counted _ _ f.0 f.2 c.count_tail.result c.count_tail.ensures in
    let a = c.args in
    let f = c.requires in
    omega (arith, counted, tail_most a.image.now a.end f.0 f.2)

pub refuse_tail-requires : goal.refuse_tail-requires
refuse_tail-requires c =
    let f = c.requires in
    (f.1, f.2, omega arith)

pub returns-then-right-ne256 : goal.returns-then-right-ne256
unfolding tail_at gate
returns-then-right-ne256 c =
    let counted : c.args.end + c.count_tail.result ≡ tail_from c.args.image.now c.args.end =
    let f = c.requires in
    tail_counted _ _ f.0 f.2 c.count_tail.result c.count_tail.ensures in
    rw (← counted, ne_eqb _ 256 c.if-right-ne256.true) c.refuse_tail.ensures

pub refuse_tail-requires-then-not-allows_last : goal.refuse_tail-requires-then-not-allows_last
refuse_tail-requires-then-not-allows_last c =
    let f = c.requires in
    (f.1, f.2, omega (arith, f.2))

pub returns-then-not-allows_last : goal.returns-then-not-allows_last
unfolding tail_at gate
returns-then-not-allows_last c =
    let counted : c.args.end + c.count_tail.result ≡ tail_from c.args.image.now c.args.end =
    let f = c.requires in
    tail_counted _ _ f.0 f.2 c.count_tail.result c.count_tail.ensures in
    let last = sym c.allows_last.ensures ∙ c.if-not-allows_last.true in
    rw (← counted, c.if-right-ne256.false, last) c.refuse_tail-then-not-allows_last.ensures

pub returns : goal.returns
unfolding tail_at gate
returns c =
    let counted : c.args.end + c.count_tail.result ≡ tail_from c.args.image.now c.args.end =
    let f = c.requires in
    tail_counted _ _ f.0 f.2 c.count_tail.result c.count_tail.ensures in
    let last = sym c.allows_last.ensures ∙ c.if-not-allows_last.false in
    rw (← counted, c.if-right-ne256.false, last) c.none.ensures
