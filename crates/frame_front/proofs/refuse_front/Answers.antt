-- `frame_front::refuse_front` meets its contract, one test after the other. Assumes nothing.
use mathlib.Core.Path.{◌≡◌, sym, ◌∙◌}
use mathlib.Core.Bool.{true}
use native.Mathlib.Omega.{arith}
use borrow.Author.Tests.{ne_eqb}
use lib.ListN.{get_or}
use Rattle.card.specs.Frame.{head_end}
use Rattle.card.specs.Refusals.{gate}
use Rattle.card.specs.Rules.{first_allowed}
use Rattle.card.specs.Reading.{front_refusal}
use Rattle.frame.proofs.Heads.{head_in_lem}
use Rattle.frame_front.proofs.refuse_front.Goals as goal

pub returns-then-not-allows_first : goal.returns-then-not-allows_first
unfolding front_refusal gate
returns-then-not-allows_first c =
    let first = sym c.allows_first.ensures ∙ c.if-not-allows_first.true in
    rw first c.new.ensures

pub returns-then-right-ne30 : goal.returns-then-right-ne30
unfolding front_refusal gate
returns-then-right-ne30 c =
    let headed : c.head_end-right.result ≡ head_end c.args.image.now =
    c.head_end-right.ensures ∙ head_in_lem _ (omega arith) in
    let first_right : first_allowed (get_or c.args.image.now 0 0) ≡ true =
    sym c.allows_first.ensures ∙ c.if-not-allows_first.false in
    rw (first_right, ← headed, ne_eqb _ _ c.if-right-ne30.true) c.new-then-right-ne30.ensures

pub returns-then-image-ne96 : goal.returns-then-image-ne96
unfolding front_refusal gate
returns-then-image-ne96 c =
    let headed : c.head_end-right.result ≡ head_end c.args.image.now =
    c.head_end-right.ensures ∙ head_in_lem _ (omega arith) in
    let first_right : first_allowed (get_or c.args.image.now 0 0) ≡ true =
    sym c.allows_first.ensures ∙ c.if-not-allows_first.false in
    let head = sym (headed) ∙ c.if-right-ne30.false in
    rw (first_right, head, ne_eqb _ _ c.if-image-ne96.true) c.new-then-image-ne96.ensures

pub returns-then-wrong-ne0 : goal.returns-then-wrong-ne0
unfolding front_refusal gate
returns-then-wrong-ne0 c =
    let headed : c.head_end-right.result ≡ head_end c.args.image.now =
    c.head_end-right.ensures ∙ head_in_lem _ (omega arith) in
    let first_right : first_allowed (get_or c.args.image.now 0 0) ≡ true =
    sym c.allows_first.ensures ∙ c.if-not-allows_first.false in
    let head = sym (headed) ∙ c.if-right-ne30.false in
    rw (first_right, head, c.if-image-ne96.false, ← c.requires.1, ne_eqb _ _ c.if-wrong-ne0.true) c.new-then-wrong-ne0.ensures

pub returns : goal.returns
unfolding front_refusal gate
returns c =
    let headed : c.head_end-right.result ≡ head_end c.args.image.now =
    c.head_end-right.ensures ∙ head_in_lem _ (omega arith) in
    let first_right : first_allowed (get_or c.args.image.now 0 0) ≡ true =
    sym c.allows_first.ensures ∙ c.if-not-allows_first.false in
    let head = sym (headed) ∙ c.if-right-ne30.false in
    rw (first_right, head, c.if-image-ne96.false, ← c.requires.1, c.if-wrong-ne0.false) c.none.ensures
