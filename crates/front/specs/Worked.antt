-- Fronts worked through: one table, and what the definitions give for each.
use Rattle.std.specs.Prelude.{ℕ, Bool, true, false, List, [], ◌∷◌, map, replicate}
use Prim.Native.Char.{code}
use Prim.Native.String.{String, [] as no_more, ◌∷◌ as ◌before◌}
use Rattle.card.specs.declared.Refusal.{Refusal}
use Rattle.card.specs.Content.{Content}
use Rattle.card.specs.Refusals.{none}
use Rattle.front.specs.Lines.{lines_of}
use Rattle.front.specs.Refusing.{print_refusal}

-- the bytes of a quoted text; as on the card, the letters of DIN 66003 are quoted by the signs that have their numbers
abbrev bytes : String → List ℕ
bytes no_more = []
bytes (c before s) = code c ∷ bytes s

abbrev pub texts : List String → List (List ℕ)
texts = map bytes

-- a card in one of the layouts, what its front is refused with in a room of 112 bytes, and its lines
pub record Front : Type 0 where
  pub fund : Bool
  pub values : List (List ℕ)
  pub refusal : Refusal
  pub lines : List (List ℕ)

-- card S
abbrev values_s : List (List ℕ)
values_s = texts ("AB" ∷ "1234567" ∷ "00000" ∷ "123456" ∷ "1" ∷ "1" ∷ "" ∷ "A" ∷ "" ∷ "BC" ∷ "01011950" ∷ "" ∷ "" ∷ "1234" ∷ "XY" ∷ "1225" ∷ [])

-- names of 33 characters, the first three parts of 28; enrolled in a care programme in the east
abbrev values_long : List (List ℕ)
values_long =
    texts
    ("AOK Musterland" ∷ "1234567" ∷ "00000" ∷ "123456789012" ∷ "1123" ∷ "X" ∷ "Dr." ∷ "Hans-J}rgen" ∷ "von der Heid" ∷ "Gr}n" ∷ "01011950" ∷ "" ∷ "" ∷ "12345" ∷ "K|ln" ∷ "1225" ∷ [])

unfoldable pub fronts : List Front
fronts =
    record {
      fund = true;
      values = values_s;
      refusal = none;
      lines =
          texts
          ("A BC                        "
          ∷ "                            "
          ∷ "AB                          "
          ∷ "1234567123456      1   11225"
          ∷ []);
    }
    ∷ record {
      fund = false;
      values = values_long;
      refusal = none;
      lines =
          texts
          ("                            "
          ∷ "Dr. Hans-J}rgen von der Heid"
          ∷ "Gr}n                        "
          ∷ "1234567123456789012112391225"
          ∷ []);
    }
    ∷ []

abbrev card_of : List (List ℕ) → Content
card_of vs = record { first = 0x92; free = replicate 12 0; last = 0; values = vs }

unfoldable pub printed : Front → Front
printed f = record { fund = f.fund; values = f.values; refusal = print_refusal f.fund (card_of f.values) 112; lines = lines_of f.fund (card_of f.values) }
