-- `letters_spelled::put_letter`: whether there is a second byte decides which of the two puts is the letter's. Assumes nothing.
use mathlib.Core.Path.{◌≡◌, sym, ◌∙◌}
use mathlib.Core.List.{[], ◌∷◌}
use Rattle.letters.specs.Letters.{first_of, second_of, letter}
use Rattle.letters.proofs.Single.{one_byte, two_bytes}
use Rattle.letters_spelled.proofs.put_letter.Goals as goal

pub returns-then-second-eq0 : goal.returns-then-second-eq0
returns-then-second-eq0 c =
    let one : letter c.args.b ≡ c.args.b ∷ [] = one_byte _ (sym c.second_of-second.ensures ∙ c.if-second-eq0.true) in
    rw one c.put_byte.ensures

pub returns : goal.returns
returns c =
    let b = c.args.b in
    let second = c.second_of-second.ensures in
    let two : letter b ≡ first_of b ∷ second_of b ∷ [] = two_bytes b (λ z. c.if-second-eq0.false (second ∙ z)) in
    rw (two, ← second, ← c.first_of.ensures) c.put.ensures
