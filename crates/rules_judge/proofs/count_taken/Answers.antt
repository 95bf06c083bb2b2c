-- `rules_judge::count_taken` meets its contract. The invariant: what is passed with what is left makes the whole. Assumes nothing.
use mathlib.Core.Path.{◌≡◌, sym, ap, ◌∙◌}
use Prim.Native.Nat.{◌+◌, ◌-◌, ◌≤◌}
use native.Mathlib.Nat.{zero-add}
use native.Mathlib.Omega.{arith}
use borrow.Author.Rules.{rules}
use borrow.Author.Tests.{not-true, not-false}
use lib.ListN.{length, drop}
use Rattle.rules_judge.specs.declared.Characters.{Characters}
use Rattle.rules_judge.specs.Characters.{has_byte}
use Rattle.ground.specs.Lists.{leading}
use Rattle.rules.specs.Values.{takes}
use Rattle.ground.proofs.Lists.{leading_pass, leading_stop, leading_end}
use Rattle.rules_judge.proofs.Bits.{leading_bits}
use Rattle.rules_judge.proofs.count_taken.Goals as goal

pub loop-i-init : goal.loop-i-init
loop-i-init c = zero-add _

pub returns-then-not-has : goal.returns-then-not-has
returns-then-not-has c =
    let right : let a = c.args in leading (has_byte c.characters_of-characters.result) a.v.now ≡ leading (takes a.rule) a.v.now =
    let a = c.args in
    ap (λ (x : Characters). leading (has_byte x) a.v.now) c.characters_of-characters.ensures ∙ leading_bits a.rule a.v.now (λ k l. omega (arith, c.type_inv.v k)) in
    let f = has_byte c.characters_of-characters.result in
    sym (leading_stop f 0 c.args.v.now c.loop-i.i (omega arith) (sym c.has.ensures ∙ c.if-not-has.true)) ∙ c.loop-i.invariant ∙ right

pub loop-i-preserved : goal.loop-i-preserved
loop-i-preserved c =
    let f = has_byte c.characters_of-characters.result in
    sym (leading_pass f 0 c.args.v.now c.loop-i.i (omega arith) (sym c.has.ensures ∙ c.if-not-has.false)) ∙ c.loop-i.invariant

pub returns : goal.returns
returns c =
    let right : let a = c.args in leading (has_byte c.characters_of-characters.result) a.v.now ≡ leading (takes a.rule) a.v.now =
    let a = c.args in
    ap (λ (x : Characters). leading (has_byte x) a.v.now) c.characters_of-characters.ensures ∙ leading_bits a.rule a.v.now (λ k l. omega (arith, c.type_inv.v k)) in
    let f = has_byte c.characters_of-characters.result in
    let all : c.loop-i.i ≡ length c.args.v.now = omega arith in
    sym all ∙ sym (leading_end f 0 c.args.v.now c.loop-i.i all) ∙ c.loop-i.invariant ∙ right
