-- `day_search::rank` meets its contract. The invariant: what the search from `low` and `high` comes to, the whole search comes to. Assumes nothing.
use mathlib.Core.Path.{refl, sym, ap, ◌∙◌}
use mathlib.Core.List.{List}
use Prim.Native.Nat.{ℕ, ◌/◌}
use native.Mathlib.Omega.{arith}
use lib.ListN.{length}
use Rattle.day_index.specs.Order.{below}
use Rattle.day_index.proofs.Parts.{piece_lent}
use Rattle.day.specs.Index.{halfway}
use Rattle.day.specs.Calls.{entries_in}
use Rattle.day.proofs.Searches.{halved_up, halved_down, halved_end}
use Rattle.day_search.proofs.rank.Goals as goal

pub loop-low-init : goal.loop-low-init
loop-low-init c = (omega arith, omega arith, refl)

pub loop-low-preserved-then-is_below : goal.loop-low-preserved-then-is_below
loop-low-preserved-then-is_below c =
    let l = c.loop-low in
    let a = c.args in
    let n = length a.index.now / 14 in
    let m = halfway l.low l.high in
    let e = sym (ap (λ (x : List ℕ). below x a.entry.now) (piece_lent 14 n a.index.now m (omega arith))) ∙ sym c.is_below.ensures ∙ c.if-is_below.true in
    (omega arith, omega arith, sym (halved_up a.entry.now (entries_in a.index.now) n l.low l.high (omega arith) (omega arith) e) ∙ l.invariant.2)

pub loop-low-preserved : goal.loop-low-preserved
loop-low-preserved c =
    let l = c.loop-low in
    let a = c.args in
    let n = length a.index.now / 14 in
    let m = halfway l.low l.high in
    let e = sym (ap (λ (x : List ℕ). below x a.entry.now) (piece_lent 14 n a.index.now m (omega arith))) ∙ sym c.is_below.ensures ∙ c.if-is_below.false in
    (omega arith, omega arith, sym (halved_down a.entry.now (entries_in a.index.now) n l.low l.high (omega arith) (omega arith) e) ∙ l.invariant.2)

pub returns : goal.returns
returns c =
    let l = c.loop-low in
    let a = c.args in
    sym (halved_end a.entry.now (entries_in a.index.now) (length a.index.now / 14) l.low l.high (omega arith)) ∙ l.invariant.2
