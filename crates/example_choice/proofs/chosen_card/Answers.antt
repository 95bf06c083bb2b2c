-- `example_choice::chosen_card` meets its contract. The invariant: what is searched for is the first from the number reached on. Assumes nothing.
use native.Mathlib.Omega.{arith}
use mathlib.Core.Path.{refl, ◌∙◌}
use borrow.Author.Rules.{rules}
use Rattle.example.proofs.Chosen.{chosen_here, chosen_turn, chosen_all}
use Rattle.example_choice.proofs.chosen_card.Goals as goal

pub loop-long-init : goal.loop-long-init
loop-long-init c = refl

pub returns-then-objects_size-ge70 : goal.returns-then-objects_size-ge70
returns-then-objects_size-ge70 c =
    chosen_here _ _ _ _ _ c.objects_size.result c.card_of-record.ensures c.objects_size.ensures.value c.loop-long.invariant c.if-objects_size-ge70.true

pub loop-long-preserved : goal.loop-long-preserved
loop-long-preserved c =
    chosen_turn _ _ _ _ _ c.objects_size.result c.card_of-record.ensures c.objects_size.ensures.value c.loop-long.invariant (omega arith) c.if-objects_size-ge70.false

pub returns : goal.returns
returns c =
    let l = c.loop-long in
    c.card_of.ensures ∙ chosen_all _ _ _ l.long l.invariant (omega arith)
