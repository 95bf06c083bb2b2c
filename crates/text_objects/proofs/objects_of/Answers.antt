-- `text_objects::objects_of`: the objects passed are those listed. Assumes nothing.
use Prim.Native.Nat.{◌<◌}
use native.Mathlib.Omega.{arith}
use mathlib.Core.Path.{◌≡◌, refl, ap, ◌∙◌}
use lib.ListN.{length}
use lib.ListN.{length-set}
use Rattle.card_text.specs.Records.{listed, object_said, object_at, objects_said}
use Rattle.card_text.proofs.Listed.{listed_more, listed_all}
use Rattle.text_objects.proofs.objects_of.Goals as goal

pub loop-i-init : goal.loop-i-init
unfolding listed
loop-i-init c = (refl, refl)

pub loop-i-preserved : goal.loop-i-preserved
loop-i-preserved c =
    let l = c.loop-i in
    let h : l.i < length l.objects = omega arith in
    (simp length-set (omega arith), listed_more (object_at c.args.text.now) l.objects l.i l.invariant.1 h (c.object_of.ensures ∙ ap object_said c.value.ensures))

pub returns : goal.returns
unfolding objects_said
returns c =
    let l = c.loop-i in
    let e : l.i ≡ 16 = omega arith in
    rw e at (listed_all (object_at c.args.text.now) l.objects l.i l.invariant.1 (omega arith))
