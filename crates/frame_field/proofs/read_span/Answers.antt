-- `frame_field::read_span` meets its contract: the field is read from the two bytes behind the tag, and its form says where the objects begin and end. Assumes nothing.
use mathlib.Core.Path.{◌∙◌, sym, ap}
use native.Mathlib.Omega.{arith}
use lib.ListN.{drop_of_length-le}
use Rattle.card.specs.Fields.{length_at}
use Rattle.card.proofs.Forms.{told_apart}
use Rattle.frame.specs.Checks.{span_of}
use Rattle.ground.proofs.Runs.{part_to_end}
use Rattle.frame_field.proofs.read_span.Goals as goal

pub returns-then-image-lt31 : goal.returns-then-image-lt31
returns-then-image-lt31 c =
    let s = c.args.image.now in
    c.span_of.ensures ∙ ap (λ x. span_of (length_at x)) (sym (drop_of_length-le s {i = 31} (omega (arith, c.if-image-lt31.true))))

pub returns : goal.returns
returns c =
    let s = c.args.image.now in
    c.span_of-2.ensures ∙ ap span_of (told_apart _ _ c.read_length.ensures ∙ ap length_at (part_to_end 31 s))
