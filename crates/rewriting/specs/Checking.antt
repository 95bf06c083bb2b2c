-- The answer of the check: its refusals, then yes or no.
use Rattle.std.specs.Prelude.{ℕ, Bool, false, not, ◌&&◌, ◌||◌, List, [], ◌∷◌, leb, eqb, length}
use Rattle.ground.specs.Lists.{same_list}
use Rattle.edition.specs.declared.Edition.{Edition}
use Rattle.card.specs.declared.Refusal.{Refusal}
use Rattle.card.specs.Refusals.{refuse, none, gate, or_else}
use Rattle.card.specs.Reading.{reading}
use Rattle.rewriting.specs.declared.Checked.{Checked}
use Rattle.rewriting.specs.Plans.{address_of, step}

-- 20 a wrong size, 2 the edition, then the new image's own number
unfoldable pub sizes_refusal : ℕ → ℕ → Refusal
sizes_refusal old new = gate (eqb old 256) (refuse 20 0 0) (gate (eqb new 256) (refuse 20 0 0) none)

unfoldable pub input_refusal : Edition → ℕ → List ℕ → Refusal
input_refusal e old new = or_else (sizes_refusal old (length new)) (reading e new).refusal

-- a state is the old image, the new one, or refused
unfoldable pub passes : Edition → List ℕ → List ℕ → List ℕ → Bool
passes e old new s = same_list s old || (same_list s new || not (eqb (reading e s).refusal.number 0))

-- from a state on: no step is past address 255, every state after a step passes, and the last is the new image
unfoldable pub plan_test : Edition → List ℕ → List ℕ → List ℕ → List ℕ → Bool
plan_test e old new s [] = same_list s new
plan_test e old new s (word ∷ steps) = (leb (address_of word) 255 && passes e old new (step s word)) && plan_test e old new (step s word) steps

-- 60 more than 257 steps; with a refusal the answer is no
unfoldable pub checked : Edition → List ℕ → List ℕ → List ℕ → Checked
checked e old new steps =
    gate (eqb (input_refusal e (length old) new).number 0) (record { refusal = input_refusal e (length old) new; safe = false })
    (gate (leb (length steps) 257) (record { refusal = refuse 60 0 0; safe = false })
    (record { refusal = none; safe = plan_test e old new old steps }))
