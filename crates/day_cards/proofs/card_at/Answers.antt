-- `card_at` meets its contract: a card is what terminal reads without a refusal, and its number stands in the fourth of the sixteen objects. Assumes nothing.
use mathlib.Core.Path.{◌≡◌, ap, ◌∙◌}
use mathlib.Core.List.{List}
use Prim.Native.Nat.{ℕ, ◌<◌}
use lib.Dec.{eqb}
use native.Mathlib.Omega.{arith}
use lib.ListN.{length}
use Rattle.edition.specs.declared.Edition.{Edition}
use Rattle.card.specs.declared.Reading.{Reading}
use Rattle.card.specs.Reading.{reading}
use Rattle.edition.specs.Tables.{terminal}
use Rattle.day.specs.Cards.{entry}
use Rattle.day.specs.Cards.{is_card, number_of}
use Rattle.day.proofs.Padded.{number_read}
use Rattle.day_cards.proofs.card_at.Goals as goal

pub returns : goal.returns
unfolding is_card
returns c =
    let a = c.args in
    let i = a.image.now in
    let e : c.read-reading.result ≡ reading terminal i = c.read-reading.ensures ∙ ap (λ (e : Edition). reading e i) c.terminal.ensures in
    let m : length c.read-reading.result.content.objects ≡ 16 = omega arith in
    let h : 3 < length c.read-reading.result.content.objects = omega arith in
    let t : eqb c.read-reading.result.refusal.number 0 ≡ is_card i = ap (λ (x : Reading). eqb x.refusal.number 0) e in
    let n : c.entry_of.result ≡ entry (number_of i) a.position = c.entry_of.ensures ∙ ap (λ (v : List ℕ). entry v a.position) (number_read c.read-reading.result i _ e h) in
    rw (t, n)
