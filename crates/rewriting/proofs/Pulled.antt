-- Twelve: whenever the plug is pulled, what a terminal of that edition reads is the old card, the new one, or a refusal. Assumes nothing.
use Prim.Native.Nat.{ℕ, ◌≤◌}
use mathlib.Core.Path.{◌≡◌, ap}
use mathlib.Core.Logic.{◌⊎◌, inl, inr}
use mathlib.Core.Bool.{true}
use mathlib.Core.List.{List}
use lib.ListN.{length, take}
use Rattle.edition.specs.declared.Edition.{Edition}
use Rattle.card.specs.declared.Refusal.{Refusal}
use Rattle.card.specs.Reading.{reading}
use Rattle.demands.specs.Demands.{LentEdition, Refuses}
use Rattle.rewriting.specs.Plans.{run, MayBe}
use Rattle.rewriting.specs.Checking.{checked}
use Rattle.rewriting.proofs.Refused.{number_met}
use Rattle.rewriting.proofs.Decided.{check_says}

-- what is read of a state: what is read of the old card, or of the new one, or a refusal
abbrev pub ReadsAs : Edition → List ℕ → List ℕ → List ℕ → Type 0
ReadsAs e old new s = (reading e s ≡ reading e old) ⊎ ((reading e s ≡ reading e new) ⊎ Refuses reading e s)

read_as : (e : Edition) (old new s : List ℕ) → LentEdition e → MayBe e old new s → ReadsAs e old new s
read_as e old new s n (inl g) = inl (ap (reading e) g)
read_as e old new s n (inr (inl g)) = inr (inl (ap (reading e) g))
read_as e old new s n (inr (inr g)) = inr (inr (λ a. g (number_met e s n (ap (λ (x : Refusal). x.number) a))))

-- of any plan that the check says yes to, after any number k of its steps
pub pulled : (e : Edition) (old new steps : List ℕ) → LentEdition e → (checked e old new steps).safe ≡ true
    → (k : ℕ) → k ≤ length steps → ReadsAs e old new (run old (take k steps))
pulled e old new steps n h k l = read_as e old new (run old (take k steps)) n (((check_says e n old new steps).0 h).safe.passing k l)
