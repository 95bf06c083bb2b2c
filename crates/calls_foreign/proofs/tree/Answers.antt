-- The listing's answer is packed.
use mathlib.Core.Path.{ap, ◌∙◌}
use Rattle.calls_foreign.specs.Foreign.{packed_tree}
use Rattle.calls_foreign.proofs.tree.Goals as goal

pub returns : goal.returns
returns c =
    let t = c.list_tree.ensures in
    record { value = c.pack_tree.ensures ∙ ap packed_tree t.value; room_after = t.room_after }
