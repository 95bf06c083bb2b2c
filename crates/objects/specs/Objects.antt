-- What the object reader answers in numbers, and the table of places of a template.
use Rattle.std.specs.Prelude.{ℕ, suc, ◌+◌, Bool, true, false, cond, ◌&&◌, List, [], ◌∷◌, eqb, leb, length, take, drop, Option, Some, None, Result, Ok, Err}
use Rattle.edition.specs.declared.Row.{Row}
use Rattle.rules.specs.declared.Fault.TheVariants.{Outside, Breaks}
use Rattle.ground.specs.Lists.{among}
use Rattle.rules.specs.Values.{Verdict}
use Rattle.rules.specs.Kinds.{judged_by}
use Rattle.edition.specs.Sets.{permitted}
use Rattle.edition.specs.Rows.{tags, tag_of}
use Rattle.card.specs.declared.Refusal.{Refusal}
use Rattle.card.specs.declared.Places.{Places}
use Rattle.card.specs.Refusals.{refuse, refuse_length, or_else}
use Rattle.card.specs.Rules.{Entry, entry_of, entries}
use Rattle.card.specs.Walk.{Seen, absent, there, wrong, weighed, passed, Walked, walk}
use Rattle.card.specs.Reading.{objects_refusal, rest_in, values_in, rest_refusal}
use Rattle.card.specs.Places.{no_places, placed}
use Rattle.objects.specs.declared.Found.{Found}
use Rattle.objects.specs.declared.Refused.{Refused}
use Rattle.objects.specs.declared.Met.{Met}

abbrev pub entry_at : ℕ → Row → Entry
entry_at k r = entry_of (tag_of k) r

-- the object reader's answer in the document's numbers: an object's tag, where its value begins and how long it is; or number, place and tag of a refusal
pub record ToldFound : Type 0 where
  pub refused : Bool
  pub number : ℕ
  pub place : ℕ
  pub tag : ℕ
  pub row : ℕ
  pub start : ℕ
  pub length : ℕ

abbrev pub found_told : Result Found Refused → ToldFound
found_told (Ok f) = record { refused = false; number = 0; place = 0; tag = tag_of f.row; row = f.row; start = f.start; length = f.length }
found_told (Err x) = record { refused = true; number = x.number; place = x.place; tag = x.tag; row = 0; start = 0; length = 0 }

abbrev pub found_at : ℕ → ℕ → ℕ → Found
found_at k start n = record { row = k; start = start; length = n }

abbrev pub refused_at : ℕ → ℕ → ℕ → Refused
refused_at number place tag = record { number = number; place = place; tag = tag }

abbrev pub met_at : ℕ → ℕ → Met
met_at start n = record { start = start; length = n }

-- the object behind the tag at `at`, and what a row finds, where values are judged by a table, whatever it has: with the table of the kinds, as without one
unfoldable pub object_by : List ℕ → Entry → ℕ → List ℕ → Seen
object_by kinds r at [] = wrong (refuse 8 at r.tag)
object_by kinds r at (n ∷ bs) =
    cond (permitted r.row.lengths n)
    (cond (leb n (length bs)) (weighed r (at + 2) (take n bs) (drop n bs) (judged_by kinds r.row.rule (take n bs))) (wrong (refuse 8 at r.tag)))
    (wrong (refuse_length (at + 1) r.tag r.row.lengths))

unfoldable pub look_by : List ℕ → Entry → List ℕ → ℕ → List ℕ → Seen
look_by kinds r ts at [] = passed r at true
look_by kinds r ts at (b ∷ bs) = cond (eqb b r.tag) (object_by kinds r at bs) (passed r at (among b ts))

-- what row k's object, whose tag stands at `at`, is in numbers; one that stands is not absent
unfoldable pub found_of : ℕ → ℕ → Seen → Result Found Refused
found_of k at absent = Ok (found_at k at 0)
found_of k at (there v rest) = Ok (found_at k (at + 2) (length v))
found_of k at (wrong x) = Err (refused_at x.number x.place x.tag)

-- row k's value of n bytes at start, by its verdict
unfoldable pub valued : ℕ → ℕ → ℕ → Verdict → Result Found Refused
valued k start n (Ok u) = Ok (found_at k start n)
valued k start n (Err (Outside i)) = Err (refused_at 9 (start + i) (tag_of k))
valued k start n (Err Breaks) = Err (refused_at 10 start (tag_of k))

-- row k's tag stands at the head
abbrev pub here : ℕ → List ℕ → Bool
here k [] = false
here k (b ∷ bs) = eqb b (tag_of k)

-- the required row k is passed over: 5 where the byte met is no tag of a later row, else 6; at the end no tag is due
abbrev pub passed_over : ℕ → ℕ → List ℕ → Refusal
passed_over k at [] = refuse 6 at (tag_of k)
passed_over k at (b ∷ bs) = cond (among b (drop (suc k) tags)) (refuse 6 at (tag_of k)) (refuse 5 at 0)

-- a refusal with its ends, those of the row's set with number 7
unfoldable pub with_ends : ℕ → ℕ → ℕ → ℕ → Refusal
with_ends lengths number place tag = cond (eqb number 7) (refuse_length place tag lengths) (refuse number place tag)

-- what a row that sees x meets: nothing of its own, which it may; its object; or a refusal
unfoldable pub met_of : ℕ → Seen → Result (Option Met) Refusal
met_of at absent = Ok None
met_of at (there v rest) = Ok (Some (met_at (at + 2) (length v)))
met_of at (wrong x) = Err x

-- ---- the table
-- the first object that is wrong, or 12, where the bytes end at `end`
unfoldable pub table_refusal : ℕ → Walked → Refusal
table_refusal end w = or_else (objects_refusal w) (rest_refusal end (length (rest_in w)))

unfoldable pub table_of : ℕ → ℕ → Walked → Places
table_of from end w = placed (table_refusal end w) from (take 16 (values_in w))

-- the table of a template that begins at `from`; 1 for one that no card has
unfoldable pub listed : List ℕ → List Row → ℕ → Places
listed t rows from =
    cond (leb from 33 && leb (length t) 212) (table_of from (from + length t) (walk (entries tags rows) from t)) (no_places (refuse 1 0 0))
