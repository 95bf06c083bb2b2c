-- What is promised of the front beyond its contract.
use Rattle.std.specs.Prelude.{ℕ, ◌≡◌, Bool, true, not, ◌&&◌, List, [], ◌∷◌, map, eqb, length, get_or, set}
use Rattle.ground.specs.Lists.{among}
use Rattle.rules.specs.Values.{is_text}
use Rattle.edition.specs.Tables.{terminal}
use Rattle.card.specs.Content.{Content}
use Rattle.card.specs.Refusing.{edition_refusal}
use Rattle.front.specs.Lines.{value, stay, addition_sign, lines_of, end_to_end}
use Rattle.front.specs.Refusing.{is_there, printed_rows, print_refusal, room_printed}

-- in one layout the same refusal, all five numbers, and the same room behind it, whatever room
pub record SameIn (fund : Bool) (c d : Content) : Type 0 where
  pub answer : (n : ℕ) → print_refusal fund c n ≡ print_refusal fund d n
  pub room : (room : List ℕ) → room_printed fund c room ≡ room_printed fund d room

abbrev pub SameFront : Content → Content → Type 0
SameFront c d = (fund : Bool) → SameIn fund c d

-- a content with another addition
unfoldable pub with_addition : Content → List ℕ → Content
with_addition c v = record { first = c.first; free = c.free; last = c.last; values = set c.values 5 v }

-- enrolment in a care programme does not show: two additions with the same printed sign give the same front, on any content
abbrev pub Invisible : Type 0
Invisible = (c : Content) (u v : List ℕ) → is_there (addition_sign u) ≡ true → addition_sign u ≡ addition_sign v → SameFront (with_addition c u) (with_addition c v)

-- the same, of two contents that differ only in their additions
abbrev pub DifferOnly : Type 0
DifferOnly =
    (c d : Content) → d ≡ with_addition c (value d 5) → is_there (addition_sign (value c 5)) ≡ true → addition_sign (value c 5) ≡ addition_sign (value d 5) → SameFront c d

-- no letter is printed for an addition: what stands in its place is one of 1 9 4 6 7 8
abbrev pub NoLetter : Type 0
NoLetter = (v : List ℕ) → is_there (addition_sign v) ≡ true → among (get_or (addition_sign v) 0 0) stay ≡ true

-- the front shows the printed fields and nothing else: beside them only writing's refusal counts
abbrev pub OnlyPrinted : Type 0
OnlyPrinted =
    (fund : Bool) (c d : Content) → edition_refusal terminal c ≡ edition_refusal terminal d → ((k : ℕ) → among k (printed_rows fund) ≡ true → value c k ≡ value d k) → SameIn fund c d

-- a character of the printed lines: text without the underscore
abbrev pub printable : ℕ → Bool
printable b = is_text b && not (eqb b 0x5F)

unfoldable pub all_of : (ℕ → Bool) → List ℕ → Bool
all_of f [] = true
all_of f (x ∷ xs) = f x && all_of f xs

-- four lines, each of exactly 28 printable characters
pub record FourLines (lines : List (List ℕ)) : Type 0 where
  pub long : map length lines ≡ 28 ∷ 28 ∷ 28 ∷ 28 ∷ []
  pub shown : all_of printable (end_to_end lines) ≡ true

-- a front that is not refused has four such lines; `field` fills and never cuts, so the values stand on them whole
abbrev pub Lines28 : Type 0
Lines28 = (fund : Bool) (c : Content) (n : ℕ) → (print_refusal fund c n).number ≡ 0 → FourLines (lines_of fund c)
