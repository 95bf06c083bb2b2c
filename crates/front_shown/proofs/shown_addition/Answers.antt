-- `front_shown::shown_addition` meets its contract: of a single byte its sign. Assumes nothing.
use mathlib.Core.Path.{◌≡◌, sym, ap, ◌∙◌}
use native.Mathlib.Omega.{arith}
use lib.ListN.{length}
use Rattle.card.specs.Content.{value_of}
use Rattle.front.proofs.Values.{value_long}
use Rattle.front.specs.Lines.{sign_of}
use Rattle.front.proofs.Signs.{addition_one, addition_none, byte_of}
use borrow.Author.Rules.{rules}
use Rattle.front_shown.proofs.shown_addition.Goals as goal

pub returns-then-addition-ne1 : goal.returns-then-addition-ne1
returns-then-addition-ne1 c =
    let held : length c.args.addition.bytes ≡ 28 =
    search rules in
    let long : length (value_of c.args.addition) ≡ c.args.addition.length =
    value_long c.args.addition (held) (omega arith) in
    sym (addition_none (value_of c.args.addition) (λ z. c.if-addition-ne1.true (sym (long) ∙ z)))

pub returns : goal.returns
returns c =
    let held : length c.args.addition.bytes ≡ 28 =
    search rules in
    let long : length (value_of c.args.addition) ≡ c.args.addition.length =
    value_long c.args.addition (held) (omega arith) in
    let i = c.args.addition in
    let one : i.length ≡ 1 = c.if-addition-ne1.false in
    c.sign_of.ensures ∙ ap sign_of (sym (byte_of i 0 (omega arith) (omega (arith, held)))) ∙ sym (addition_one (value_of i) (long ∙ one))
