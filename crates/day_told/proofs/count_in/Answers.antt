-- `count_in` meets its contract: the two bytes stand four and three before the end, or at the start where there are not so many, and a byte that is not there is 0, in the code as in the definition. Assumes nothing.
use mathlib.Core.Path.{ap, ap₂, ◌∙◌}
use Prim.Native.Nat.{ℕ, ◌+◌, ◌*◌}
use lib.ListN.{get_or}
use Rattle.day_told.proofs.count_in.Goals as goal

pub returns : goal.returns
returns c =
    let s = c.args.file.now in
    ap₂ (λ (a b : ℕ). a * 256 + b)
    (c.from.ensures ∙ c.byte_at-high.ensures ∙ ap (λ (i : ℕ). get_or s i 0) c.saturating_sub.ensures)
    (c.from-2.ensures ∙ c.byte_at-low.ensures ∙ ap (λ (i : ℕ). get_or s i 0) c.saturating_sub-2.ensures)
