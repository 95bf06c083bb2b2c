-- `day_cards::entry_of` meets its contract. The invariant: the bytes passed are those of the padded number. Assumes nothing.
use mathlib.Core.Path.{◌≡◌, refl, ◌∙◌}
use native.Mathlib.Omega.{arith}
use borrow.Author.Rules.{rules}
use lib.ListN.{length-set}
use lib.Seq.{take_all}
use Rattle.card.specs.Content.{value_of}
use Rattle.day.specs.Cards.{padded}
use Rattle.day.proofs.Padded.{length_padded, entry_more, entry_stored}
use Rattle.day_cards.proofs.entry_of.Goals as goal

pub loop-i-init : goal.loop-i-init
loop-i-init c = (refl, refl)

pub loop-i-preserved : goal.loop-i-preserved
loop-i-preserved c =
    let l = c.loop-i in
    let v = value_of c.args.number in
    let n = length_padded v in
    (simp length-set (omega arith), entry_more (padded v) l.bytes l.i c.padded_at.result (omega arith) (omega arith) c.padded_at.ensures l.invariant.1)

pub returns : goal.returns
returns c =
    let l = c.loop-i in
    let v = value_of c.args.number in
    let e : l.i ≡ 12 = omega arith in
    entry_stored v l.bytes c.args.position l.invariant.0 ((rw e at l.invariant.1) ∙ take_all 12 (padded v) (omega (arith, length_padded v)))
