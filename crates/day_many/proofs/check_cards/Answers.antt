-- `day_many::check_cards` meets its contract. The invariant: what the images from k on tell, all tell. Assumes nothing.
use native.Mathlib.Nat.{add-sub_cancel_left}
use mathlib.Core.Path.{sym, ap, ◌∙◌}
use native.Mathlib.Omega.{arith}
use borrow.Author.Rules.{rules}
use borrow.Author.Tests.{not-true, not-false}
use Rattle.day_cards.specs.declared.Card.{Card}
use Rattle.day.proofs.Turns.{cards_start, cards_pass, cards_stop, cards_end}
use Rattle.day_many.proofs.check_cards.Goals as goal

pub loop-k-init : goal.loop-k-init
loop-k-init c = cards_start c.args.images.now c.args.count

pub returns-then-not-card : goal.returns-then-not-card
returns-then-not-card c =
    let l = c.loop-k in
    let a = c.args in
    c.new.ensures
    ∙ sym (cards_stop a.images.now a.count l.k (omega arith) (rw add-sub_cancel_left at (sym (ap (λ (x : Card). x.accepted) c.card_at-card.ensures) ∙ not-true _ c.if-not-card.true)))
    ∙ l.invariant

pub loop-k-preserved : goal.loop-k-preserved
loop-k-preserved c =
    let l = c.loop-k in
    let a = c.args in
    sym (cards_pass a.images.now a.count l.k (omega arith) (rw add-sub_cancel_left at (sym (ap (λ (x : Card). x.accepted) c.card_at-card.ensures) ∙ not-false _ c.if-not-card.false))) ∙ l.invariant

pub returns : goal.returns
returns c =
    let l = c.loop-k in
    let a = c.args in
    c.none.ensures ∙ sym (cards_end a.images.now a.count l.k (omega arith)) ∙ l.invariant
