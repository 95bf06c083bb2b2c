-- The length of a template or a filler: one byte up to 127; from 128 on, '81' and one byte. No other form.
use Rattle.std.specs.Prelude.{ℕ, cond, List, [], ◌∷◌, leb, eqb}
use Rattle.lengths.specs.declared.ToldLength.{ToldLength}
use Rattle.card.specs.declared.LengthField.{LengthField}
use Rattle.card.specs.declared.LengthField.TheVariants.{One, Two, Other, Cut}

-- which form stands at the head of some bytes
abbrev pub second_byte : List ℕ → LengthField
second_byte [] = Cut
second_byte (n ∷ bs) = Two n

abbrev pub length_at : List ℕ → LengthField
length_at [] = Cut
length_at (b ∷ bs) = cond (leb b 127) (One b) (cond (eqb b 0x81) (second_byte bs) (Other b))

-- the form in numbers: the length and how many bytes it takes, or the number 4, with the byte that is no form
pub record ToldField : Type 0 where
  pub number : ℕ
  pub length : ℕ
  pub used : ℕ

abbrev pub field_told : LengthField → ToldField
field_told (One n) = record { number = 0; length = n; used = 1 }
field_told (Two n) = record { number = 0; length = n; used = 2 }
field_told (Other b) = record { number = 4; length = b; used = 1 }
field_told Cut = record { number = 4; length = 0; used = 0 }

-- ---- the card's form by the answer of the piece that reads lengths up to 65,535: of its forms the card takes two
abbrev pub unread : List ℕ → LengthField
unread [] = Cut
unread (b ∷ bs) = cond (eqb b 0x81) (second_byte bs) (Other b)

abbrev pub taken : ToldLength → List ℕ → LengthField
taken field bs = cond (eqb field.used 1) (One field.length) (cond (eqb field.used 2) (Two field.length) (unread bs))
