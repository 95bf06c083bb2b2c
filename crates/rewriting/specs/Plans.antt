-- A plan: steps, each an address and a byte; and when a card can be pulled at any time under it.
use Rattle.std.specs.Prelude.{ℕ, ◌+◌, ◌*◌, ◌/◌, ◌%◌, ◌≤◌, ◌<◌, ◌≡◌, ◌⊎◌, List, [], ◌∷◌, length, take, get_or, set}
use Rattle.edition.specs.declared.Edition.{Edition}
use Rattle.card.specs.Rules.{Meets}

-- a step is one number: its address times 256, and its byte
abbrev pub step_to : ℕ → ℕ → ℕ
step_to address byte = address * 256 + byte

abbrev pub address_of : ℕ → ℕ
address_of word = word / 256

abbrev pub byte_of : ℕ → ℕ
byte_of word = word % 256

-- the state after a step, and after all steps
abbrev pub step : List ℕ → ℕ → List ℕ
step s word = set s (address_of word) (byte_of word)

unfoldable pub run : List ℕ → List ℕ → List ℕ
run s [] = s
run s (word ∷ steps) = run (step s word) steps

-- the old image, the new one, or one that the edition refuses
abbrev pub MayBe : Edition → List ℕ → List ℕ → List ℕ → Type 0
MayBe e old new s = (s ≡ old) ⊎ ((s ≡ new) ⊎ (Meets e s → ⊥))

-- from a state on: no step is past address 255, the plan ends in the new image, and every state on the way may be
pub record SafeFrom (e : Edition) (old new s steps : List ℕ) : Type 0 where
  pub within : (k : ℕ) → k < length steps → address_of (get_or steps k 0) ≤ 255
  pub ends : run s steps ≡ new
  pub passing : (k : ℕ) → k ≤ length steps → MayBe e old new (run s (take k steps))

abbrev pub Safe : Edition → List ℕ → List ℕ → List ℕ → Type 0
Safe e old new steps = SafeFrom e old new old steps
