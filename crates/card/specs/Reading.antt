-- The answer to an image: the first refusal in the document's order, 1, 2, 3, 4; object by object; then 12, 11, 13, 14 to 17; or else its content.
use Rattle.std.specs.Prelude.{ℕ, ◌-◌, cond, List, [], map, eqb, length, take, drop, get_or}
use Rattle.edition.specs.declared.Edition.{Edition}
use Rattle.edition.specs.Rows.{tags, formed_of}
use Rattle.card.specs.declared.Refusal.{Refusal}
use Rattle.card.specs.declared.Reading.{Reading}
use Rattle.card.specs.Content.{Content, record_of, empty_record}
use Rattle.card.specs.Refusals.{refuse, none, gate, or_else, size_refusal, bad_row}
use Rattle.card.specs.Layout.{tag_at, xor_all}
use Rattle.card.specs.Rules.{entries, first_allowed, last_allowed}
use Rattle.card.specs.Sums.{sums_refusal}
use Rattle.card.specs.Frame.{free_of, head_end, field_wrong, field_of, start_of, end_of, objects_in, tail_end, tail_part}
use Rattle.card.specs.Walk.{Walked, through, stopped, walk}

pub data Answer : Type 0 where
  accepted : Content → Answer
  refused : Refusal → Answer

-- ---- what the walk has found: its refusal, the seventeen values, that of the checksum last, and what is left behind them
abbrev pub objects_refusal : Walked → Refusal
objects_refusal (through all rest) = none
objects_refusal (stopped x) = x

abbrev pub values_in : Walked → List (List ℕ)
values_in (through all rest) = all
values_in (stopped x) = []

abbrev pub rest_in : Walked → List ℕ
rest_in (through all rest) = rest
rest_in (stopped x) = []

-- ---- the links
-- 3 and 4
unfoldable pub front_refusal : List ℕ → Refusal
front_refusal s =
    gate (first_allowed (get_or s 0 0)) (refuse 3 0 0)
    (gate (eqb (head_end s) 30) (refuse 3 (head_end s) 0)
    (gate (eqb (get_or s 30 0) 0x60) (refuse 4 30 0)
    (gate (eqb (field_wrong (field_of s)) 0) (refuse 4 (field_wrong (field_of s)) 0) none)))

-- 12, where so many bytes are left before `end`
unfoldable pub rest_refusal : ℕ → ℕ → Refusal
rest_refusal end left = gate (eqb left 0) (refuse 12 (end - left) 0) none

-- 13: the template's last byte is the checksum
unfoldable pub checksum_refusal : List ℕ → Refusal
checksum_refusal s = gate (eqb (get_or s (end_of s - 1) 0) (xor_all (take (end_of s - 31) (drop 30 s)))) (refuse 13 (end_of s - 1) 0) none

-- 14 to 17, by the part in which the first wrong address lies: the filler, then the last byte
abbrev pub tail_wrong : List ℕ → ℕ → Refusal
tail_wrong s at = refuse (tail_part (255 - end_of s) (at - end_of s)) at 0

unfoldable pub tail_refusal : List ℕ → Refusal
tail_refusal s = gate (eqb (tail_end s) 256) (tail_wrong s (tail_end s)) (gate (last_allowed (get_or s 0 0) (get_or s 255 0)) (tail_wrong s 255) none)

-- the objects; 12; 11; 13; 14 to 17
unfoldable pub walk_refusal : List ℕ → Walked → Refusal
walk_refusal s w =
    or_else (objects_refusal w)
    (or_else (rest_refusal (end_of s) (length (rest_in w)))
    (or_else (sums_refusal (tag_at (start_of s) (take 16 (values_in w))) (map length (take 16 (values_in w))))
    (or_else (checksum_refusal s) (tail_refusal s))))

-- ---- the chain
abbrev pub walk_of : Edition → List ℕ → Walked
walk_of e s = walk (entries tags e.rows) (start_of s) (objects_in s)

unfoldable pub read_refusal : Edition → List ℕ → Refusal
read_refusal e s =
    or_else (size_refusal 1 (length s))
    (or_else (bad_row (formed_of e))
    (or_else (front_refusal s)
    (walk_refusal s (walk_of e s))))

unfoldable pub content_at : List ℕ → List (List ℕ) → Content
content_at s vs = record { first = get_or s 0 0; free = free_of s; last = get_or s 255 0; values = vs }

-- a refusal, or else the content
unfoldable pub answered : Refusal → Content → Answer
answered x c = cond (eqb x.number 0) (accepted c) (refused x)

unfoldable pub answer : Edition → List ℕ → Answer
answer e s = answered (read_refusal e s) (content_at s (take 16 (values_in (walk_of e s))))

-- an accepted image gives its record with the edition's number, a refused one the empty record
unfoldable pub answer_of : ℕ → Answer → Reading
answer_of number (accepted c) = record { refusal = none; content = record_of number c }
answer_of number (refused x) = record { refusal = x; content = empty_record }

abbrev pub reading : Edition → List ℕ → Reading
reading e s = answer_of e.number (answer e s)
