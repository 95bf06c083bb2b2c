-- `front_marks::has_underscore` meets its contract: what is claimed past the bytes is no underscore. Assumes nothing.
use mathlib.Core.Path.{◌≡◌, sym, ap, ◌∙◌}
use Prim.Native.Nat.{ℕ, min}
use borrow.Author.Rules.{rules}
use lib.ListN.{length, take}
use Rattle.front.proofs.Marks.{mark_any, mark_held}
use Rattle.front_marks.proofs.has_underscore.Goals as goal

pub returns : goal.returns
returns c =
    let item = c.args.item in
    let held : length item.bytes ≡ 28 = search rules in
    let n = c.min-n.result in
    c.contains.ensures.value ∙ mark_any 0x5F (take n item.bytes) ∙ sym (mark_held item held n (c.min-n.ensures ∙ ap (λ (k : ℕ). min k 28) c.from.ensures))
