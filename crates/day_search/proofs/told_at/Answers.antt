-- `told_at` meets its contract: past the last entry the count is told; before it the twelve bytes of the number are compared, and the two behind them are the position. Assumes nothing.
use mathlib.Core.Path.{sym, ap, ap₂, ◌∙◌}
use mathlib.Core.List.{List}
use Prim.Native.Nat.{ℕ, ◌+◌, ◌*◌, ◌/◌, ◌<◌}
use native.Mathlib.Omega.{arith}
use lib.ListN.{length, take}
use lib.Seq.{length-take-le}
use Rattle.ground.specs.Lists.{same_list}
use Rattle.day_index.proofs.Parts.{length_pieces}
use Rattle.day.specs.Calls.{entries_in}
use Rattle.day.proofs.Finding.{past_all, unlike, like, front_lent, position_lent}
use Rattle.day_search.proofs.told_at.Goals as goal

pub returns-then-k-count : goal.returns-then-k-count
returns-then-k-count c =
    let a = c.args in
    let n = length a.index.now / 14 in
    past_all a.key.now (entries_in a.index.now) n a.k (length_pieces 14 n a.index.now) (omega arith)

pub slice_bounds-is_same-end-2 : goal.slice_bounds-is_same-end-2
slice_bounds-is_same-end-2 c = sym (length-take-le 12 c.args.key.now (omega arith))

pub returns-then-not-is_same : goal.returns-then-not-is_same
returns-then-not-is_same c =
    let a = c.args in
    let n = length a.index.now / 14 in
    let h : a.k < n = omega arith in
    unlike a.key.now (entries_in a.index.now) n a.k (length_pieces 14 n a.index.now) h
    (ap (λ (x : List ℕ). same_list x (take 12 a.key.now)) (sym (front_lent a.index.now n a.k h)) ∙ sym c.is_same.ensures ∙ c.if-not-is_same.true)

pub returns : goal.returns
returns c =
    let a = c.args in
    let n = length a.index.now / 14 in
    let h : a.k < n = omega arith in
    ap₂ (λ (x y : ℕ). x * 256 + y) c.from.ensures c.from-2.ensures
    ∙ position_lent a.index.now n a.k h
    ∙ like a.key.now (entries_in a.index.now) n a.k (length_pieces 14 n a.index.now) h
    (ap (λ (x : List ℕ). same_list x (take 12 a.key.now)) (sym (front_lent a.index.now n a.k h)) ∙ sym c.is_same.ensures ∙ c.if-not-is_same.false)
