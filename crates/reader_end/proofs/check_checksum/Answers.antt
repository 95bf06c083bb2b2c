-- `reader_end::check_checksum` meets its contract: the span summed is that of the definition. Assumes nothing.
use mathlib.Core.Path.{◌≡◌, sym, ap, ◌∙◌}
use Prim.Native.Nat.{ℕ, ◌-◌}
use native.Mathlib.Omega.{arith}
use borrow.Author.Tests.{eq-eqb, ne_eqb}
use lib.ListN.{take, drop}
use Rattle.card.specs.Refusals.{gate}
use Rattle.card.specs.Layout.{xor_all}
use Rattle.reader_steps.specs.Steps.{checksum_at}
use Rattle.reader_end.proofs.check_checksum.Goals as goal

pub returns-then-image-last : goal.returns-then-image-last
unfolding checksum_at gate
returns-then-image-last c =
    let sum_of : xor_all (take (c.args.end - 31) (drop 30 c.args.image.now)) ≡ c.checksum.result =
    let a = c.args in
    let n : a.end - 1 - 30 ≡ a.end - 31 = omega arith in
    sym (c.checksum.ensures ∙ ap (λ (x : ℕ). xor_all (take x (drop 30 a.image.now))) n) in
    rw (sum_of, ne_eqb _ _ c.if-image-last.true) c.new.ensures

pub returns-else-image-last : goal.returns-else-image-last
unfolding checksum_at gate
returns-else-image-last c =
    let sum_of : xor_all (take (c.args.end - 31) (drop 30 c.args.image.now)) ≡ c.checksum.result =
    let a = c.args in
    let n : a.end - 1 - 30 ≡ a.end - 31 = omega arith in
    sym (c.checksum.ensures ∙ ap (λ (x : ℕ). xor_all (take x (drop 30 a.image.now))) n) in
    rw (sum_of, eq-eqb _ _ c.if-image-last.false) c.none.ensures
