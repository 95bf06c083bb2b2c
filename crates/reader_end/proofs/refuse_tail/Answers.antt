-- `reader_end::refuse_tail` meets its contract: the template's end lies where a card has it, so its tail has parts. Assumes nothing.
use Prim.Native.Nat.{◌-◌}
use native.Mathlib.Omega.{arith}
use mathlib.Core.Path.{◌≡◌, ◌∙◌}
use borrow.Author.Tests.{le-leb}
use Rattle.card.specs.Frame.{tail_part}
use Rattle.frame.specs.Checks.{part_in}
use Rattle.reader_end.proofs.refuse_tail.Goals as goal

pub returns : goal.returns
unfolding part_in
returns c =
    let a = c.args in
    let e : 256 - a.end - 1 ≡ 255 - a.end = omega arith in
    let number : c.number_tail.result ≡ tail_part (255 - a.end) (a.at - a.end) =
    c.number_tail.ensures ∙ rw (le-leb 3 (256 - a.end) (omega arith), le-leb (256 - a.end) 256 (omega arith), e) in
    c.new.ensures ∙ rw number
