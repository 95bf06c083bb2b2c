-- `rebuilding::listed::names_address` meets its contract: what `contains` finds is among the list. Assumes nothing.
use mathlib.Core.Path.{◌≡◌, ap, ◌∙◌}
use Prim.Native.Nat.{ℕ, ◌+◌}
use native.Mathlib.Omega.{arith}
use Rattle.ground.specs.Lists.{among}
use Rattle.differences.specs.Answers.{word}
use Rattle.rebuilding.specs.Rebuilding.{names_address}
use Rattle.rebuilding.proofs.Named.{among_contains}
use Rattle.rebuilding.proofs.listed.names_address.Goals as goal

pub returns : goal.returns
unfolding names_address
returns c =
    let l = c.args.entries.now in
    let entry : 327680 + c.args.address ≡ word 5 0 c.args.address = omega arith in
    c.contains.ensures.value ∙ among_contains (327680 + c.args.address) l ∙ ap (λ (e : ℕ). among e l) entry
