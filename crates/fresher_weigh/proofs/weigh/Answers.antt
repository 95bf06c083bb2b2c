-- `fresher_weigh::weigh` meets its contract, by its tests in the order of the definition. Assumes nothing.
use mathlib.Core.Path.{◌≡◌, ap}
use mathlib.Core.Bool.{true, false}
use borrow.Author.Tests.{eq-eqb, ne_eqb}
use Rattle.card.specs.Refusals.{gate}
use Rattle.fresher.specs.Comparing.{dated, weighed}
use Rattle.fresher_weigh.proofs.weigh.Goals as goal

pub returns-then-first-ne0 : goal.returns-then-first-ne0
unfolding weighed gate
returns-then-first-ne0 c = rw (ne_eqb _ _ c.if-first-ne0.true) c.refuse.ensures

pub returns-then-other-ne0 : goal.returns-then-other-ne0
unfolding weighed gate
returns-then-other-ne0 c =
    let a = c.args in
    let some : a.b.refusal.number ≡ 0 → ⊥ = c.if-other-ne0.true in
    rw (eq-eqb _ _ c.if-first-ne0.false, ne_eqb _ _ some) c.refuse-then-other-ne0.ensures

pub returns-then-not-expiry : goal.returns-then-not-expiry
unfolding weighed gate
returns-then-not-expiry c =
    let off : c.args.expiry ≡ false = c.if-not-expiry.true in
    rw (eq-eqb _ _ c.if-first-ne0.false, eq-eqb _ _ c.if-other-ne0.false, off) c.undated.ensures

pub returns-in-None : goal.returns-in-None
unfolding weighed gate
returns-in-None c =
    let on : c.args.expiry ≡ true = c.if-not-expiry.false in
    rw (eq-eqb _ _ c.if-first-ne0.false, eq-eqb _ _ c.if-other-ne0.false, on, c.in-None.is) c.undated-in-None.ensures

pub returns-in-None-months : goal.returns-in-None-months
unfolding weighed gate
returns-in-None-months c =
    let on : c.args.expiry ≡ true = c.if-not-expiry.false in
    rw (eq-eqb _ _ c.if-first-ne0.false, eq-eqb _ _ c.if-other-ne0.false, on, c.in-Some.is, c.in-None-months.is) c.undated-in-None-months.ensures

pub returns : goal.returns
unfolding weighed gate
returns c =
    let on : c.args.expiry ≡ true = c.if-not-expiry.false in
    let first : dated c.args.a.months ≡ true = ap dated c.in-Some.is in
    let second : dated c.args.b.months ≡ true = ap dated c.in-Some-months.is in
    rw (eq-eqb _ _ c.if-first-ne0.false, eq-eqb _ _ c.if-other-ne0.false, on, first, second) c.compare_dates.ensures
