-- `rebuilding::mending::mend_free` meets its contract. The invariant: the first i bytes are those of the whole. Assumes nothing.
use mathlib.Core.Path.{◌≡◌, refl, sym, ap, ◌∙◌}
use mathlib.Core.Bool.{cond}
use mathlib.Core.List.{List}
use Prim.Native.Nat.{ℕ, ◌<◌}
use native.Mathlib.Omega.{arith}
use lib.ListN.{get_or, length-set}
use Rattle.differences.specs.Differences.{free_addresses}
use Rattle.rebuilding.specs.Rebuilding.{names_address}
use Rattle.differences.proofs.Filled.{stored_next, stored_end}
use Rattle.rebuilding.proofs.Picked.{mended_length, mended_at}
use borrow.Author.Rules.{rules}
use Rattle.rebuilding.proofs.mending.mend_free.Goals as goal

pub loop-i-init : goal.loop-i-init
loop-i-init c = (search rules, refl, search rules, search rules, refl)

pub loop-i-preserved : goal.loop-i-preserved
loop-i-preserved c =
    let put = c.mend_byte in
    let l = c.loop-i in
    let a = c.args in
    let listed = names_address a.entries.now in
    let i = l.invariant in
    let many = mended_length listed free_addresses a.first a.second i.2 i.3 in
    let h : l.i < 12 = omega arith in
    let is = put.ensures ∙ ap (λ (xs : List ℕ). cond (listed (get_or xs l.i 0)) (get_or a.second l.i 0) (get_or a.first l.i 0)) i.1 in
    (simp length-set i.0, i.1, i.2, i.3, stored_next _ _ l.i i.4 0 _ (omega (arith, i.0)) (omega (arith, many)) (is ∙ sym (mended_at listed free_addresses a.first a.second 0 l.i i.2 i.3 h)))

pub returns : goal.returns
returns c =
    let l = c.loop-i in
    let a = c.args in
    let e : l.i ≡ 12 = omega arith in
    let many = mended_length (names_address a.entries.now) free_addresses a.first a.second l.invariant.2 l.invariant.3 in
    stored_end _ _ l.i l.invariant.4 (omega (arith, l.invariant.0)) (omega (arith, many))
