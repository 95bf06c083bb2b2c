-- The objects of a template: the rows are walked in card order, over the bytes that are left.
use Rattle.std.specs.Prelude.{ℕ, ◌+◌, Bool, true, cond, List, [], ◌∷◌, map, leb, eqb, length, take, drop, Ok, Err}
use Rattle.rules.specs.declared.Fault.TheVariants.{Outside, Breaks}
use Rattle.ground.specs.Lists.{among}
use Rattle.edition.specs.Sets.{permitted}
use Rattle.rules.specs.Values.{Verdict, judged}
use Rattle.card.specs.declared.Refusal.{Refusal}
use Rattle.card.specs.Refusals.{refuse, refuse_length, none}
use Rattle.card.specs.Rules.{Entry, Fault, met, missing, length-out, byte-out, value_out}

-- what a row finds: its object is absent; its value and the bytes behind it; or a refusal
pub data Seen : Type 0 where
  absent : Seen
  there : List ℕ → List ℕ → Seen
  wrong : Refusal → Seen

-- 9 at the first byte outside the characters, 10 at the first value byte
unfoldable pub weighed : Entry → ℕ → List ℕ → List ℕ → Verdict → Seen
weighed r at v rest (Ok u) = there v rest
weighed r at v rest (Err (Outside i)) = wrong (refuse 9 (at + i) r.tag)
weighed r at v rest (Err Breaks) = wrong (refuse 10 at r.tag)

-- behind the tag at `at`: 8 for the length byte, 7, 8 for the value, 9, 10
unfoldable pub object_at : Entry → ℕ → List ℕ → Seen
object_at r at [] = wrong (refuse 8 at r.tag)
object_at r at (n ∷ bs) =
    cond (permitted r.row.lengths n)
    (cond (leb n (length bs)) (weighed r (at + 2) (take n bs) (drop n bs) (judged r.row.rule (take n bs))) (wrong (refuse 8 at r.tag)))
    (wrong (refuse_length (at + 1) r.tag r.row.lengths))

-- the row is passed over: 5 where the byte met is no tag of a later row, else 6 if it is required
unfoldable pub passed : Entry → ℕ → Bool → Seen
passed r at later = cond r.row.required (wrong (cond later (refuse 6 at r.tag) (refuse 5 at 0))) absent

-- what row r finds at `at`, where `bs` is left of the template and `ts` are the tags of the later rows; at the end no tag is due
unfoldable pub look : Entry → List ℕ → ℕ → List ℕ → Seen
look r ts at [] = passed r at true
look r ts at (b ∷ bs) = cond (eqb b r.tag) (object_at r at bs) (passed r at (among b ts))

-- what a row's fault is refused with; at `at` stands the object's tag or, where the object is missing, the next tag or the template's end
unfoldable pub fault_at : Entry → ℕ → Fault → Refusal
fault_at r at met = none
fault_at r at missing = refuse 6 at r.tag
fault_at r at length-out = refuse_length (at + 1) r.tag r.row.lengths
fault_at r at (byte-out i) = refuse 9 (at + 2 + i) r.tag
fault_at r at value_out = refuse 10 (at + 2) r.tag

-- the values of all rows and what is left behind them, or the first refusal
pub data Walked : Type 0 where
  through : List (List ℕ) → List ℕ → Walked
  stopped : Refusal → Walked

unfoldable pub push : List ℕ → Walked → Walked
push v (through vs rest) = through (v ∷ vs) rest
push v (stopped x) = stopped x

unfoldable pub onward : (ℕ → List ℕ → Walked) → ℕ → List ℕ → Seen → Walked
onward further at bs absent = push [] (further at bs)
onward further at bs (there v rest) = push v (further (at + 2 + length v) rest)
onward further at bs (wrong x) = stopped x

abbrev pub tags_of : List Entry → List ℕ
tags_of = map (λ r. r.tag)

unfoldable pub walk : List Entry → ℕ → List ℕ → Walked
walk [] at bs = through [] bs
walk (r ∷ rs) at bs = onward (walk rs) at bs (look r (tags_of rs) at bs)
