-- The answer to two images under one edition.
use Rattle.std.specs.Prelude.{ℕ, ◌+◌, ◌-◌, ◌*◌, List, [], ◌++◌, map, length, replicate}
use Rattle.edition.specs.declared.Edition.{Edition}
use Rattle.card.specs.declared.Refusal.{Refusal}
use Rattle.card.specs.Refusals.{none}
use Rattle.card.specs.Reading.{Answer, accepted, refused, answer}
use Rattle.differences.specs.declared.Differences.{Differences}
use Rattle.differences.specs.Differences.{Difference, absent-in-first, absent-in-second, lengths_differ, index-differs, byte-differs, differences_of}

-- an entry as one number: its kind times 65536, its tag times 256, and its place
abbrev pub word : ℕ → ℕ → ℕ → ℕ
word kind tag place = kind * 65536 + tag * 256 + place

abbrev pub word_of : Difference → ℕ
word_of (absent-in-first tag) = word 1 tag 0
word_of (absent-in-second tag) = word 2 tag 0
word_of (lengths_differ tag) = word 3 tag 0
word_of (index-differs tag i) = word 4 tag i
word_of (byte-differs address) = word 5 0 address

-- the list stands at the head of thirty words, and the rest is 0
unfoldable pub thirty : List Difference → List ℕ
thirty l = map word_of l ++ replicate (30 - length l) 0

abbrev pub told : Refusal → List Difference → Differences
told x l = record { refusal = x; count = length l; entries = thirty l }

-- a refused image gives its own refusal, the first image before the second; the list is then empty
unfoldable pub side_by_side : Answer → Answer → Differences
side_by_side (refused x) b = told x []
side_by_side (accepted c) (refused y) = told y []
side_by_side (accepted c) (accepted d) = told none (differences_of c d)

abbrev pub compared : Edition → List ℕ → List ℕ → Differences
compared e s t = side_by_side (answer e s) (answer e t)
