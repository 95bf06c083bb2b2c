-- Our own plan: spoil one byte that no edition lets pass, write what differs, write that byte last; and the answer with its refusals.
use Rattle.std.specs.Prelude.{ℕ, suc, cond, List, [], ◌∷◌, ◌++◌, eqb, ltb, length, take, drop, get_or}
use Rattle.std.proofs.lemmas.List.Edits.{sets}
use Rattle.edition.specs.declared.Edition.{Edition}
use Rattle.card.specs.declared.Refusal.{Refusal}
use Rattle.card.specs.Refusals.{refuse, none, gate}
use Rattle.rewriting.specs.Plans.{step_to}
use Rattle.rewriting.specs.Checking.{input_refusal}
use Rattle.planning.specs.declared.Planned.{Planned}

-- the step to an address where the byte becomes another; none where it stays
abbrev pub change : ℕ → ℕ → ℕ → List ℕ
change address o n = cond (eqb o n) [] (step_to address n ∷ [])

-- the steps to all addresses from `at` on
unfoldable pub changes : ℕ → List ℕ → List ℕ → List ℕ
changes at [] ns = []
changes at (o ∷ os) [] = []
changes at (o ∷ os) (n ∷ ns) = change at o n ++ changes (suc at) os ns

-- in the place of the template's tag stands 0, or what stood there if it was no such tag
abbrev pub spoiled : ℕ → ℕ
spoiled tag = cond (eqb tag 0x60) 0 tag

unfoldable pub rewritten : List ℕ → List ℕ → List ℕ
rewritten old new =
    change 30 (get_or old 30 0) (spoiled (get_or old 30 0))
    ++ (changes 0 (take 30 old) (take 30 new)
    ++ (changes 31 (drop 31 old) (drop 31 new)
    ++ change 30 (spoiled (get_or old 30 0)) (get_or new 30 0)))

-- one byte, or none, is written at once
unfoldable pub our_plan : List ℕ → List ℕ → List ℕ
our_plan old new = cond (ltb (length (changes 0 old new)) 2) (changes 0 old new) (rewritten old new)

-- 20 the room or an image has a wrong size, 2 the edition, then the new image's own number
unfoldable pub plan_refusal : Edition → List ℕ → List ℕ → List ℕ → Refusal
plan_refusal e old new room = gate (eqb (length room) 257) (refuse 20 0 0) (input_refusal e (length old) new)

-- with a refusal the plan is empty
unfoldable pub planned : Edition → List ℕ → List ℕ → List ℕ → Planned
planned e old new room =
    gate (eqb (plan_refusal e old new room).number 0) (record { refusal = plan_refusal e old new room; count = 0 })
    (record { refusal = none; count = length (our_plan old new) })

-- the steps stand at the head of the room, and what lies behind them stays; with a refusal all of it
unfoldable pub room_after : Edition → List ℕ → List ℕ → List ℕ → List ℕ
room_after e old new room = gate (eqb (plan_refusal e old new room).number 0) room (sets room 0 (our_plan old new))
