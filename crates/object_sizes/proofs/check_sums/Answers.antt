-- `check_sums` meets its contract: where all starts are 0, every place is 0. Assumes nothing.
use mathlib.Core.Path.{◌≡◌, refl, ◌∙◌}
use mathlib.Core.List.{List}
use Prim.Native.Nat.{ℕ, zero, suc}
use native.Mathlib.Omega.{arith}
use lib.ListN.{get_or, replicate}
use Rattle.card.specs.Rules.{first_present}
use Rattle.card.specs.Sums.{sums_refusal, tag_before, nowhere}
use Rattle.card.proofs.Starts.{sums_place}
use Rattle.object_sizes.proofs.check_sums.Goals as goal

zero-at : (n i : ℕ) → ◌≡◌ {A = ℕ} (get_or (replicate n 0) i 0) 0
zero-at zero i = refl
zero-at (suc n) zero = refl
zero-at (suc n) (suc i) = zero-at n i

no_place : (ns : List ℕ) → sums_refusal (tag_before (replicate 16 0)) ns ≡ sums_refusal nowhere ns
no_place ns = sums_place _ _ ns (λ e. omega (arith, zero-at 16 (first_present 6 ns))) (λ e. omega (arith, zero-at 16 (first_present 12 ns)))

pub returns : goal.returns
returns c = c.check_sums.ensures ∙ no_place _
