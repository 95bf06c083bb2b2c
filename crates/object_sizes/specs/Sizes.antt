-- How many bytes the objects take in the template, by the lengths of their values, and what is refused of that.
use Rattle.std.specs.Prelude.{ℕ, ◌+◌, cond, ◌&&◌, List, [], ◌∷◌, eqb, leb}
use Rattle.card.specs.declared.Refusal.{Refusal}
use Rattle.card.specs.Refusals.{refuse, none, gate, or_else}
use Rattle.card.specs.Sums.{sums_refusal, nowhere}

-- tag, length and value; an absent object takes nothing
abbrev pub size_with : ℕ → ℕ
size_with n = cond (eqb n 0) 0 (n + 2)

unfoldable pub size_of : List ℕ → ℕ
size_of [] = 0
size_of (n ∷ ns) = size_with n + size_of ns

-- 4: the template has three bytes more than the objects
unfoldable pub size_refusal : ℕ → Refusal
size_refusal size = gate (leb 70 (size + 3) && leb (size + 3) 212) (refuse 4 0 0) none

-- 11, then 4
unfoldable pub sizes_refusal : List ℕ → Refusal
sizes_refusal ns = or_else (sums_refusal nowhere ns) (size_refusal (size_of ns))
