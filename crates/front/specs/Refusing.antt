-- What a front is refused with, and the room behind it.
use Rattle.std.specs.Prelude.{ℕ, Bool, true, false, cond, not, ◌||◌, List, [], ◌∷◌, eqb, length}
use Rattle.ground.specs.Lists.{among}
use Rattle.edition.specs.Tables.{terminal}
use Rattle.card.specs.declared.Refusal.{Refusal}
use Rattle.card.specs.Content.{Content}
use Rattle.card.specs.Refusals.{refuse, none, gate, or_else}
use Rattle.card.specs.Refusing.{edition_refusal}
use Rattle.front.specs.Lines.{value, addition_sign, lines_of, end_to_end}

abbrev pub is_there : List ℕ → Bool
is_there [] = false
is_there (b ∷ v) = true

-- the rows that a layout prints, in card order: 81 82 83 90 84 85 86 87 8D, and 80 with the fund name
abbrev pub other_rows : List ℕ
other_rows = 1 ∷ 3 ∷ 4 ∷ 5 ∷ 6 ∷ 7 ∷ 8 ∷ 9 ∷ 15 ∷ []

abbrev pub printed_rows : Bool → List ℕ
printed_rows fund = cond fund (0 ∷ other_rows) other_rows

-- an underscore in the value of one of some rows
unfoldable pub underscored : Content → List ℕ → Bool
underscored c [] = false
underscored c (k ∷ ks) = among 0x5F (value c k) || underscored c ks

-- 30 addition missing or not of the eighteen single signs, 31 validity missing, 32 underscore in a printed field
unfoldable pub lines_refusal : Bool → Content → Refusal
lines_refusal fund c =
    gate (is_there (addition_sign (value c 5))) (refuse 30 0 0)
    (gate (is_there (value c 15)) (refuse 31 0 0)
    (gate (not (underscored c (printed_rows fund))) (refuse 32 0 0)
    none))

-- first writing's own refusal of this content under terminal, then 20 if the room is not 112 bytes, then 30, 31, 32
unfoldable pub print_refusal : Bool → Content → ℕ → Refusal
print_refusal fund c n = or_else (edition_refusal terminal c) (gate (eqb n 112) (refuse 20 0 0) (lines_refusal fund c))

-- a refusal leaves the room unchanged; otherwise the four lines fill it
unfoldable pub room_printed : Bool → Content → List ℕ → List ℕ
room_printed fund c room = cond (eqb (print_refusal fund c (length room)).number 0) (end_to_end (lines_of fund c)) room
