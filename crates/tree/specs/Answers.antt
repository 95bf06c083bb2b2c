-- What the listing answers, and what it leaves in the lent room: four words for an object, tag, depth, address and length.
use Rattle.std.specs.Prelude.{◌≡◌, ℕ, ◌+◌, ◌*◌, ◌≤◌, cond, List, [], ◌∷◌, ltb, length, Result, Ok, Err}
use Rattle.std.proofs.lemmas.List.Edits.{sets}
use Rattle.tree.specs.declared.Scan.{Scan}
use Rattle.tree.specs.declared.Refusal.{Refusal}
use Rattle.tree.specs.Heads.{refuse}
use Rattle.tree.specs.Listing.{Entry, entry, Out, took, refused, listing}

unfoldable pub words : List Entry → List ℕ
words [] = []
words (entry t d a n ∷ es) = t ∷ d ∷ a ∷ n ∷ words es

-- 55, after all that is wrong with the bytes: the room has no place for the objects
unfoldable pub answered : Out → ℕ → Result ℕ Refusal
answered (took es u) room = cond (ltb room (4 * length es)) (refuse 55 0) (Ok (length es))
answered (refused x p) room = refuse x p

-- a refusal leaves the room as it is, an answer what lies behind it
unfoldable pub filled : Out → List ℕ → List ℕ
filled (took es u) room = cond (ltb (length room) (4 * length es)) room (sets room 0 (words es))
filled (refused x p) room = room

-- 54, before all: more than 4,096 bytes
unfoldable pub tree_answer : List ℕ → List ℕ → Result ℕ Refusal
tree_answer s room = cond (ltb 4096 (length s)) (refuse 54 0) (answered (listing 1 0 s) (length room))

unfoldable pub tree_room : List ℕ → List ℕ → List ℕ
tree_room s room = cond (ltb 4096 (length s)) room (filled (listing 1 0 s) room)

-- how many objects were listed: none with a refusal
abbrev pub count_of : Result ℕ Refusal → ℕ
count_of (Ok n) = n
count_of (Err e) = 0

-- ---- what a reader answers that began with k words in the room, and what it leaves there, where all fits
abbrev pub scan : ℕ → ℕ → Result Scan Refusal
scan words used = Ok (record { words = words; used = used })

unfoldable pub scanned : ℕ → Out → Result Scan Refusal
scanned k (took es u) = scan (k + 4 * length es) u
scanned k (refused x p) = refuse x p

unfoldable pub Stored : ℕ → Out → List ℕ → List ℕ → Type 0
Stored k (took es u) room after = k + 4 * length es ≤ length room → after ≡ sets room k (words es)
Stored k (refused x p) room after = Unit {0}

pub record Done (k : ℕ) (o : Out) (r : Result Scan Refusal) (room after : List ℕ) : Type 0 where
  pub answer : r ≡ scanned k o
  pub stored : Stored k o room after
