-- `example_objects::objects_of` meets its contract. The invariant: the objects so far are those of the first k rows. Assumes nothing.
use Prim.Native.Nat.{ℕ, ◌<◌}
use native.Mathlib.Omega.{arith}
use mathlib.Core.Path.{◌≡◌, refl, ap, ◌∙◌}
use mathlib.Core.List.{map}
use borrow.Author.Rules.{rules}
use lib.ListN.{length, get_or, length-set}
use Rattle.edition.specs.declared.Row.{Row}
use Rattle.edition.specs.Rows.{no_row}
use Rattle.card.specs.Content.{object_of}
use Rattle.example.specs.Cards.{listed, length_at, value_for, value_at, values_of}
use Rattle.example.proofs.Listed.{listed_more, listed_all}
use Rattle.example_objects.proofs.objects_of.Goals as goal

pub loop-k-init : goal.loop-k-init
unfolding listed
loop-k-init c = (refl, refl)

pub loop-k-preserved : goal.loop-k-preserved
loop-k-preserved c =
    let l = c.loop-k in
    let h : l.k < length l.object-items = omega arith in
    let i : Row = get_or c.args.inner l.k no_row in
    let o : Row = get_or c.args.outer l.k no_row in (
      simp length-set (omega arith),
      listed_more object_of _ l.object-items l.k l.invariant.1 h
          (c.object_for.ensures
          ∙ ap (λ (n : ℕ). object_of (value_for c.part_of.result i o n)) c.length_at.ensures
          ∙ ap (λ (p : ℕ). object_of (value_for p i o (length_at c.rows_for-rows.result c.args.long l.k))) c.part_of.ensures),
    )

pub returns : goal.returns
unfolding values_of
returns c =
    let l = c.loop-k in
    let e : l.k ≡ 16 = omega arith in
    let made : l.object-items ≡ map object_of (listed 16 (value_at c.args.inner c.args.outer c.rows_for-rows.result c.args.told c.args.long)) =
    rw e at (listed_all object_of _ l.object-items l.k l.invariant.1 (omega arith)) in
    rw c.rows_for-rows.ensures at made
