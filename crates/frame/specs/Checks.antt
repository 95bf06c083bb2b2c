-- What is refused before the objects, where they stand, and how far the bytes behind them are right.
use Rattle.std.specs.Prelude.{ℕ, ◌+◌, ◌-◌, ◌≤◌, ◌≡◌, cond, ◌&&◌, List, eqb, leb, length, get_or, drop}
use Rattle.ground.specs.Lists.{agree}
use Rattle.card.specs.declared.Refusal.{Refusal}
use Rattle.card.specs.declared.LengthField.{LengthField}
use Rattle.card.specs.Refusals.{none, or_else, size_refusal}
use Rattle.card.specs.Fields.{field_told}
use Rattle.card.specs.Layout.{filler}
use Rattle.card.specs.Frame.{head_end, field_wrong, start_of, end_of, tail_part}
use Rattle.card.specs.Reading.{front_refusal}
use Rattle.frame.specs.declared.Front.{Front}
use Rattle.frame.specs.declared.Span.{Span}

-- where a length field is wrong, where the objects start, and the address behind the template
unfoldable pub span_of : LengthField → Span
span_of f = record { wrong = field_wrong f; start = 31 + (field_told f).used; end = 31 + (field_told f).used + (field_told f).length }

-- the first address below 30 whose byte is not as it must be, 30 where all are; 0 for fewer bytes than that
unfoldable pub head_in : List ℕ → ℕ
head_in s = cond (leb 30 (length s)) (head_end s) 0

-- 1, the refusal of the edition, 3 and 4
unfoldable pub open_refusal : Refusal → List ℕ → Refusal
open_refusal edition s = or_else (size_refusal 1 (length s)) (or_else edition (front_refusal s))

-- where nothing is refused before the objects: where they start and end
unfoldable pub front_of : Refusal → List ℕ → Front
front_of edition s =
    cond (eqb (open_refusal edition s).number 0)
    (record { refusal = none; start = start_of s; end = end_of s })
    (record { refusal = open_refusal edition s; start = 0; end = 0 })

-- how many bytes of a part that begins behind a template and ends with the image are as they must be; 0 for one that no card has
abbrev pub same_tail : List ℕ → ℕ
same_tail p = agree (filler (length p - 1) (get_or p (length p - 1) 0)) p

unfoldable pub same_in : List ℕ → ℕ
same_in p = cond (leb 3 (length p) && leb (length p) 256) (same_tail p) 0

-- the first address from `end` on whose byte is not as it must be behind a template that ends there; 256 where all are
unfoldable pub tail_from : List ℕ → ℕ → ℕ
tail_from s end = end + agree (filler (255 - end) (get_or s 255 0)) (drop end s)

-- the number of the part in which a byte of such a part lies
unfoldable pub part_in : ℕ → ℕ → ℕ
part_in size at = cond (leb 3 size && leb size 256) (tail_part (size - 1) at) 0

-- the address behind the template, where the length field is right
pub record Framed (s : List ℕ) (end : ℕ) : Type 0 where
  pub long : length s ≡ 256
  pub is : end ≡ end_of s
  pub least : 101 ≤ end
  pub most : end ≤ 253
